use Rattle.std.proofs.Common.{◌≡◌}
use Rattle.planner.specs.Same.{Same, state}
use Rattle.planner.proofs.Walks.{Moved}
use Rattle.planner.proofs.tables.Tables.carry.Given as goal

abbrev pub invariant-loop-link : goal.invariant-loop-link
invariant-loop-link g l =
    Moved g.K.Amount.kind l.initial.self.words (state l.initial.self) l.way (g.K.Amount.kind.element l.d) l.hops l.i l.self.transfers.now
    × Same l.initial.self l.self × (l.self.to_give.now ≡ l.initial.self.to_give.now) × (l.self.to_get.now ≡ l.initial.self.to_get.now)
