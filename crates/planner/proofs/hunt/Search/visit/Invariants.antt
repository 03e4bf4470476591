use Rattle.std.proofs.Common.{◌≡◌}
use Rattle.planner.proofs.Outs.{Outing}
use Rattle.planner.proofs.hunt.Search.visit.Given as goal

abbrev pub invariant-loop-i : goal.invariant-loop-i
invariant-loop-i l =
    Outing l.self.words.now l.j l.initial.self.seek l.i-iterator.0 l.self.seek
    × (l.self.seek.head ≡ l.initial.self.seek.head) × (l.self.words.now ≡ l.initial.self.words.now)
