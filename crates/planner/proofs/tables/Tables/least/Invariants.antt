use Rattle.planner.specs.Same.{state}
use Rattle.planner.proofs.Walks.{Least}
use Rattle.planner.proofs.tables.Tables.least.Given as goal

abbrev pub invariant-loop-link : goal.invariant-loop-link
invariant-loop-link g l = Least g.K.Amount.kind l.self.words (state l.self) l.way l.hops l.d
