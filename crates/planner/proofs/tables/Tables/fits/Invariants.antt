use Rattle.planner.specs.Same.{state}
use Rattle.planner.proofs.Walks.{Fits}
use Rattle.planner.proofs.tables.Tables.fits.Given as goal

abbrev pub invariant-loop-link : goal.invariant-loop-link
invariant-loop-link g l = Fits g.K.Amount.kind l.self.words (state l.self) l.way (g.K.Amount.kind.element l.d) l.hops l.i l.fits
