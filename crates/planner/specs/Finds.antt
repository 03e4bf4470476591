-- What a search of a step finds: how it ends, and the way back from where it ends.
use Rattle.std.specs.Prelude.{◌≡◌, ℕ, ◌<◌, true, [], Result, MatchResult}
use Rattle.words.specs.Words.{bit}
use Rattle.flow.specs.Search.{searching, found, search_all, trace}
use Rattle.planner.specs.declared.state.Words.{Words}
use Rattle.planner.specs.declared.way.Way.{Way}
use Rattle.planner.specs.Hops.{Among}
use Rattle.planner.specs.Model.{tests}
use Rattle.planner.specs.Ways.{trail}

-- the search ends at the receiver of the way, which is its way back
pub record Leads (w : Words) (y : Way) : Type 0 where
  pub ends : (search_all (tests w)).ends ≡ found y.receiver
  pub way : trace (tests w) w.n (search_all (tests w)) ((search_all (tests w)).from y.receiver) [] ≡ trail w y
  pub among : Among w y

-- the search ends nowhere, and has reached these givers
pub record Stuck (w : Words) (reached : ℕ) : Type 0 where
  pub ends : (search_all (tests w)).ends ≡ searching
  pub givers : (search_all (tests w)).reached ≡ bit reached

-- what the search finds: a way, or no way
abbrev pub Finds : Words → Result Way ℕ → Type 0
Finds w r = MatchResult r (λ y. Leads w y) (λ reached. Stuck w reached)

-- the search ends at receiver i, seen from giver j, who has something to give
pub record Straight (w : Words) (j i : ℕ) : Type 0 where
  pub giver : j < w.n
  pub receiver : i < w.n
  pub starts : bit w.givers j ≡ true
  pub ends : (search_all (tests w)).ends ≡ found i
  pub from : (search_all (tests w)).from i ≡ j
