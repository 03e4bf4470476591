use Rattle.std.proofs.Common.{◌≡◌}
use Rattle.planner.specs.Same.{Same}
use Rattle.planner.proofs.Begins.{Weighed}
use Rattle.planner.proofs.tables.Tables.weigh.Given as goal

abbrev pub invariant-loop-j : goal.invariant-loop-j
invariant-loop-j g l =
    Same l.initial.self l.self × (l.self.transfers.now ≡ l.initial.self.transfers.now)
    × Weighed g.K.Amount.kind l.j l.weights l.self.to_give.now × Weighed g.K.Amount.kind l.j l.weights l.self.to_get.now
