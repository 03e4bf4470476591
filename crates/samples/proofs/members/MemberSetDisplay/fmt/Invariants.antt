use Rattle.samples.proofs.Telling.{Tells}
use Rattle.samples.proofs.members.MemberSetDisplay.fmt.Given as goal

abbrev pub invariant-loop-place : goal.invariant-loop-place
invariant-loop-place g l = Tells g.W.Write.write_str_gives l.fn.self.0 l.place-iterator.0 l.fn.f l.f
