use Rattle.std.proofs.Common.{arith}
use Rattle.decimals.specs.Spelling.{found}
use Rattle.decimals.proofs.Spelled.{the_last}
use Rattle.decimals.proofs.spelling.spell.Goals as goal

pub returns : goal.returns
returns c =
    the_last c.args.number c.loop-rest.rest c.last_digit-2.result (found c.loop-rest.digits) (found c.push-2.new.self)
    c.push-2.ensures c.last_digit-2.ensures c.loop-rest.invariant (omega arith)
