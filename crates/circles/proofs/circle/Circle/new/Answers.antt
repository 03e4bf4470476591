use Rattle.circles.proofs.Keeps.{open_kept}
use Rattle.circles.proofs.circle.Circle.new.Goals as goal

pub invariant_of-result : goal.invariant_of-result
invariant_of-result c = record { sound = open_kept c.open.ensures }
