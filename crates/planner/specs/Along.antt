-- A step along a way, in the tables of a run.
use Rattle.std.specs.Prelude.{ℕ, Bool}
use Rattle.flow.specs.Flow.{State}
use Rattle.flow.specs.Routes.{held_along}
use Rattle.flow.specs.Search.{Way as Links}
use Rattle.amounts.specs.declared.Amount.{Ghosts}
use Rattle.planner.specs.declared.tables.Tables.{Tables}
use Rattle.planner.specs.declared.way.Way.{Way}
use Rattle.planner.specs.Same.{state}
use Rattle.planner.specs.Tables.{table}
use Rattle.planner.specs.Ways.{trail, least_along, fits_along, writable_along, moved_along, stepped}

module _ {V : Type 0} {g : Ghosts V} (t : Tables V g) (y : Way) where
  -- the links of the way, from a giver who has something to give
  abbrev pub links : Links
  links = trail t.words y

  -- the least amount on them
  abbrev pub least_on : g.kind.group.Element
  least_on = least_along g.kind links (state t) y.receiver

  -- whether an amount that is moved along them leaves only amounts that are held
  abbrev pub fits_on : g.kind.group.Element → Bool
  fits_on d = fits_along g.kind links (state t) y.receiver d

  -- the same of the transfers alone, all links at once
  abbrev pub held_on : g.kind.group.Element → Bool
  held_on d = held_along g.kind.group g.kind.held d links.first links.hops y.receiver (table g.kind t.transfers.now)

  -- and of the transfers alone, written link by link
  abbrev pub writable_on : g.kind.group.Element → Bool
  writable_on d = writable_along g.kind links (state t) y.receiver d

  -- the transfers after it was moved
  abbrev pub moved_on : g.kind.group.Element → ℕ → ℕ → g.kind.group.Element
  moved_on d = moved_along g.kind links (state t) y.receiver d

  -- the state after the step
  abbrev pub stepped_on : State g.kind.group.Element
  stepped_on = stepped g.kind links (state t) y.receiver
