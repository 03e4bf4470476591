-- The tests that a state of a run poses to the search, and the search from that state.
use Rattle.groups.specs.Group.{Group}
use Rattle.groups.specs.Sums.{above}
use Rattle.flow.specs.Flow.{Task, State}
use Rattle.flow.specs.Search.{Tests, Search, search_all}

-- a giver starts, a receiver wants and a transfer can be taken back where its amount is above zero
abbrev pub told : (G : Group) → Task G.Element → State G.Element → Tests
told G t s =
    record { n = t.n; permitted = t.permitted; starts = λ j. above G (s.g j); wants = λ i. above G (s.r i); above = λ k i. above G (s.x k i) }

-- the whole search from a state
abbrev pub search_of : (G : Group) → Task G.Element → State G.Element → Search
search_of G t s = search_all (told G t s)
