use Rattle.std.proofs.Common.{arith}
use Rattle.words.proofs.Marks.{is_marked}
use Rattle.words.proofs.word.put.Goals as goal

pub returns-clause-number : goal.returns-clause-number
returns-clause-number c = is_marked c.marks.result c.args.w c.args.k c.args.on (omega arith) c.marks.ensures
