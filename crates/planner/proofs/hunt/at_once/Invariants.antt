use Rattle.planner.proofs.Straights.{Untried}
use Rattle.planner.proofs.hunt.at_once.Given as goal

abbrev pub invariant-loop-giver : goal.invariant-loop-giver
invariant-loop-giver l = Untried l.w l.giver-iterator.0
