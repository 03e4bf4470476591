-- What the tables of a run stand for, and what every method that writes to them keeps.
use Rattle.std.specs.Prelude.{◌≡◌}
use Rattle.flow.specs.Flow.{State}
use Rattle.amounts.specs.declared.Amount.{Ghosts}
use Rattle.planner.specs.declared.tables.Tables.{Tables}
use Rattle.planner.specs.Tables.{state_of}

module _ {V : Type 0} {g : Ghosts V} where
  -- the state that the tables stand for
  abbrev pub state : Tables V g → State g.kind.group.Element
  state t = state_of g.kind t.transfers.now t.to_give.now t.to_get.now

  -- the members and their permissions are the same, and so is each of the caller's slices, whatever is written in it
  pub record Same (t u : Tables V g) : Type 0 where
    pub size : u.words.n ≡ t.words.n
    pub rules : u.words.permitted ≡ t.words.permitted
    pub transfers : u.transfers.ghost_name ≡ t.transfers.ghost_name
    pub to_give : u.to_give.ghost_name ≡ t.to_give.ghost_name
    pub to_get : u.to_get.ghost_name ≡ t.to_get.ghost_name
