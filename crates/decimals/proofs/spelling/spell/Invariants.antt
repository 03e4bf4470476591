use Rattle.std.proofs.Common.{◌≡◌, ◌++◌, decimal}
use Rattle.decimals.specs.Spelling.{found}
use Rattle.decimals.proofs.spelling.spell.Given as goal

abbrev pub invariant-loop-rest : goal.invariant-loop-rest
invariant-loop-rest l = decimal l.number ≡ decimal l.rest ++ found l.digits

abbrev pub decreases-loop-rest : goal.decreases-loop-rest
decreases-loop-rest l = l.rest
