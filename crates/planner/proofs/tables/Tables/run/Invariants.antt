use Rattle.std.proofs.Common.{◌+◌, ◌-◌}
use Rattle.flow.specs.Outcomes.{limit}
use Rattle.planner.proofs.Running.{Running, task}
use Rattle.planner.proofs.tables.Tables.run.Given as goal

abbrev pub invariant-turn : goal.invariant-turn
invariant-turn g l = Running l.initial.self l.self l.steps

abbrev pub decreases-turn : goal.decreases-turn
decreases-turn g l = limit (task l.initial.self) + 1 - l.steps
