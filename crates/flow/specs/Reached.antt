-- Where a run has come to, for a loop that does its steps one by one.
use Rattle.std.specs.Prelude.{◌≡◌, ℕ, suc, ◌-◌, ◌≤◌, Bool}
use Rattle.groups.specs.Group.{Group}
use Rattle.flow.specs.Flow.{Task, State, Inv}
use Rattle.flow.specs.Runs.{Run}
use Rattle.flow.specs.Outcomes.{limit, run, outcome, AllHeld}

-- the run has come to s after c steps, every amount is held, and what comes from here is its outcome
pub record Reached (G : Group) (held : G.Element → Bool) (t : Task G.Element) (c : ℕ) (s : State G.Element) : Type 0 where
  pub ran : Run G t c s
  pub kept : AllHeld G held t s
  pub inv : Inv G t s
  pub few : c ≤ limit t
  pub onward : outcome G held t ≡ run G held t (suc (limit t - c)) c s
