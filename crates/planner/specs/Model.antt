-- What the words and arrays of a search stand for.
use Rattle.std.specs.Prelude.{◌≡◌, ℕ, ◌+◌, ◌<◌, ◌≤◌, false, List, [], length, take, drop, Some, None, Option, MatchOption, slice_index}
use Rattle.words.specs.Words.{bit}
use Rattle.flow.specs.Counts.{count}
use Rattle.flow.specs.Search.{Ends, searching, found, Search}
use Rattle.planner.specs.declared.state.Marks.{Marks}
use Rattle.planner.specs.declared.state.Seek.{Seek}
use Rattle.planner.specs.declared.state.Words.{Words}
use Rattle.flow.specs.Search.{Tests}
use Rattle.planner.specs.Inside.{Inside}

-- the number at each place of a list, and 0 past its end
abbrev pub places : List ℕ → ℕ → ℕ
places l k = slice_index l k

-- what the words tell a search: who may receive from whom, who has to give and to get, and which transfers are above zero
abbrev pub tests : Words → Tests
tests w =
    record { n = w.n; permitted = λ j i. bit (slice_index w.permitted j) i; starts = bit w.givers; wants = bit w.takers; above = λ k i. bit (slice_index w.holders i) k }

-- the search that the words and arrays of a search stand for
abbrev pub model : Ends → Seek → Search
model e q =
    record { pending = drop q.head (take q.tail q.queue); reached = bit q.reached; seen = bit q.seen; from = places q.marks.from; via = places q.marks.via; ends = e }

-- a search that has come to receiver z by these marks; its way back is all that counts
abbrev pub marked : Marks → ℕ → Search
marked m z =
    record { pending = []; reached = λ k. false; seen = λ k. false; from = places m.from; via = places m.via; ends = found z }

-- what holds of the words and arrays of every search among n members
pub record Sound (n : ℕ) (q : Seek) : Type 0 where
  pub ahead : q.head ≤ q.tail
  pub queues : length q.queue ≡ 64
  pub room : q.tail ≤ count n (bit q.reached)
  pub members : (k : ℕ) → k < q.tail → slice_index q.queue k < n
  pub marks : Inside n q.marks.from q.marks.via

-- what taking the giver at the front of a queue answers and leaves
pub record Taken (q : Seek) (j : ℕ) (q' : Seek) : Type 0 where
  pub ahead : q.head < q.tail
  pub giver : j ≡ slice_index q.queue q.head
  pub left : q' ≡ record { queue = q.queue; head = q.head + 1; tail = q.tail; reached = q.reached; seen = q.seen; marks = q.marks }

-- the same where nobody is queued too: then nothing is answered and nothing changes
abbrev pub Popped : Seek → Option ℕ → Seek → Type 0
Popped q r q' = MatchOption r ((q.tail ≤ q.head) × (q' ≡ q)) (λ j. Taken q j q')

-- how a search ended: at a receiver, or at none
abbrev pub ending : Option ℕ → Ends
ending None = searching
ending (Some i) = found i

-- the member found, if any, is below n
abbrev pub Within : ℕ → Option ℕ → Type 0
Within n None = Unit {0}
Within n (Some i) = i < n
