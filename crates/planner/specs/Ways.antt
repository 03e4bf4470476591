-- The way that a search found, and the step along it.
use Rattle.std.specs.Prelude.{ℕ, Bool, ◌&&◌, List, [], ◌∷◌}
use Rattle.groups.specs.Group.{Group}
use Rattle.groups.specs.Sums.{minus}
use Rattle.flow.specs.Flow.{State}
use Rattle.flow.specs.Routes.{Hop, bump, amount, augment, push, held_along}
use Rattle.flow.specs.Search.{Way as Links, trace}
use Rattle.amounts.specs.Kind.{Kind}
use Rattle.planner.specs.declared.state.Words.{Words}
use Rattle.planner.specs.declared.way.Way.{Way}
use Rattle.planner.specs.Inside.{marks_of}
use Rattle.planner.specs.Model.{marked, tests}

-- an amount d that is written link by link, from the last receiver back to the first giver, is held at every link
abbrev pub held_back : (G : Group) → (G.Element → Bool) → G.Element → ℕ → List Hop → ℕ → (ℕ → ℕ → G.Element) → Bool
held_back G held d v [] z x = held (G.plus (x v z) d)
held_back G held d v (h ∷ hs) z x =
    held_back G held d h.to hs z x
    && (held (minus G (push G d h.to hs z x h.to h.over) d)
    && held (G.plus (bump G (push G d h.to hs z x) h.to h.over (G.neg d) v h.over) d))

-- the way back from its receiver to a starting giver
abbrev pub trail : Words → Way → Links
trail w y = trace (tests w) w.n (marked (marks_of y.marks) y.receiver) y.last []

module _ {V : Type 0} (k : Kind V) where
  -- the least amount along a way
  abbrev pub least_along : Links → State k.group.Element → ℕ → k.group.Element
  least_along way s z = amount k.group s way.first way.hops z

  -- an amount d moved along a way leaves only amounts that are held
  abbrev pub fits_along : Links → State k.group.Element → ℕ → k.group.Element → Bool
  fits_along way s z d =
      held_along k.group k.held d way.first way.hops z s.x
      && (k.held (minus k.group (s.g way.first) d) && k.held (minus k.group (s.r z) d))

  -- the transfers after an amount d was moved along a way
  abbrev pub moved_along : Links → State k.group.Element → ℕ → k.group.Element → ℕ → ℕ → k.group.Element
  moved_along way s z d = push k.group d way.first way.hops z s.x

  -- the state after the step along a way
  abbrev pub stepped : Links → State k.group.Element → ℕ → State k.group.Element
  stepped way s z = augment k.group way.first way.hops z s

  -- written link by link, an amount d moved along a way is held at every link
  abbrev pub writable_along : Links → State k.group.Element → ℕ → k.group.Element → Bool
  writable_along way s z d = held_back k.group k.held d way.first way.hops z s.x
