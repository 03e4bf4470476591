-- The search for a route, over tests alone: which givers and receivers it comes to, in which order, and the way back along it.
use Rattle.std.specs.Prelude.{ℕ, zero, suc, Bool, true, false, cond, not, ◌&&◌, List, [], ◌∷◌, ◌++◌, ◌==◌}
use Rattle.words.specs.Sweep.{sweep}
use Rattle.flow.specs.Routes.{Hop}

-- what a search asks about the n members, numbered from 0
pub record Tests : Type 0 where
  pub n : ℕ
  -- giver j may give to receiver i
  pub permitted : ℕ → ℕ → Bool
  -- giver j has something to give
  pub starts : ℕ → Bool
  -- receiver i wants something to get
  pub wants : ℕ → Bool
  -- the transfer from giver k to receiver i is above zero: it can be taken back
  pub above : ℕ → ℕ → Bool

-- whether the search has ended, and at which receiver
pub data Ends : Type 0 where
  searching : Ends
  found : ℕ → Ends

-- where a search stands
pub record Search : Type 0 where
  -- the queue of reached givers whose turn is still to come
  pub pending : List ℕ
  -- the givers reached, and the receivers seen
  pub reached : ℕ → Bool
  pub seen : ℕ → Bool
  -- the giver that a receiver was seen from, and the receiver that a giver was reached from
  pub from : ℕ → ℕ
  pub via : ℕ → ℕ
  pub ends : Ends

-- a starting giver, and the hops from it to the last giver of a route
pub record Way : Type 0 where
  pub first : ℕ
  pub hops : List Hop

-- f, but a at place k
unfoldable pub mark : {A : Type 0} → (ℕ → A) → ℕ → A → ℕ → A
mark f k a j = cond (j == k) a (f j)

-- giver k is reached from receiver i, and joins the queue's end
abbrev pub joined : ℕ → ℕ → Search → Search
joined i k q =
    record { pending = q.pending ++ (k ∷ []); reached = mark q.reached k true; seen = q.seen; from = q.from; via = mark q.via k i; ends = q.ends }

-- receiver i is seen from giver j
abbrev pub noted : ℕ → ℕ → Search → Search
noted j i q =
    record { pending = q.pending; reached = q.reached; seen = mark q.seen i true; from = mark q.from i j; via = q.via; ends = q.ends }

-- the search ends at receiver i
abbrev pub ended : ℕ → Search → Search
ended i q = record { pending = q.pending; reached = q.reached; seen = q.seen; from = q.from; via = q.via; ends = found i }

-- a giver has left the queue, and the rest stay in it
abbrev pub popped : List ℕ → Search → Search
popped rest q = record { pending = rest; reached = q.reached; seen = q.seen; from = q.from; via = q.via; ends = q.ends }

-- the search has not ended
abbrev pub going : Ends → Bool
going searching = true
going (found z) = false

module _ (t : Tests) where
  -- giver k can take back from receiver i, and is not yet reached
  abbrev pub back_test : ℕ → ℕ → Search → Bool
  back_test i k p = t.above k i && not (p.reached k)

  -- the givers below a bound who can take back from receiver i are reached from it, in rising number
  abbrev pub backs : ℕ → ℕ → Search → Search
  backs i = sweep (back_test i) (joined i)

  -- the search goes on, giver j may give to receiver i, and i is not yet seen
  abbrev pub out_test : ℕ → ℕ → Search → Bool
  out_test j i p = going p.ends && (t.permitted j i && not (p.seen i))

  -- receiver i is seen from giver j: the search ends there if i wants something to get, and else goes back from i to givers
  abbrev pub out_act : ℕ → ℕ → Search → Search
  out_act j i p = cond (t.wants i) (ended i (noted j i p)) (backs i t.n (noted j i p))

  -- the receivers below a bound to whom giver j may give are seen from it, in rising number, until the search ends
  abbrev pub outs : ℕ → ℕ → Search → Search
  outs j = sweep (out_test j) (out_act j)

  -- one turn: the first giver leaves the queue and comes to its receivers; nothing happens once the search has ended or the queue is empty
  abbrev pub turn_at : Ends → List ℕ → Search → Search
  turn_at (found z) ps q = q
  turn_at searching [] q = q
  turn_at searching (j ∷ rest) q = outs j t.n (popped rest q)

  -- so many turns
  unfoldable pub turns : ℕ → Search → Search
  turns zero q = q
  turns (suc c) q =
      let p = turns c q in
      turn_at p.ends p.pending p

  -- giver k has something to give, whoever stands in the queue
  abbrev pub start_test : ℕ → List ℕ → Bool
  start_test k ps = t.starts k

  -- giver k joins the queue's end
  abbrev pub start_act : ℕ → List ℕ → List ℕ
  start_act k ps = ps ++ (k ∷ [])

  -- the givers below a bound with something to give, in rising number
  abbrev pub starters : ℕ → List ℕ
  starters m = sweep start_test start_act m []

  -- before the first turn: the givers with something to give are reached and stand in the queue, and no receiver is seen
  abbrev pub fresh : Search
  fresh =
      record { pending = starters t.n; reached = t.starts; seen = λ i. false; from = λ i. 0; via = λ k. 0; ends = searching }

  -- the whole search: a giver is reached once, so n turns are enough
  unfoldable pub search_all : Search
  search_all = turns t.n fresh

  -- back along the search from giver j to a giver with something to give, in at most so many hops, before those that are known
  unfoldable pub trace : ℕ → Search → ℕ → List Hop → Way
  trace zero q j hs = record { first = j; hops = hs }
  trace (suc b) q j hs =
      let more = trace b q (q.from (q.via j)) (record { over = q.via j; to = j } ∷ hs) in
      cond (t.starts j) (record { first = j; hops = hs }) more
