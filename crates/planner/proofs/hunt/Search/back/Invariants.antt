use Rattle.std.proofs.Common.{◌≡◌}
use Rattle.planner.proofs.Backs.{Backing}
use Rattle.planner.proofs.hunt.Search.back.Given as goal

abbrev pub invariant-loop-k : goal.invariant-loop-k
invariant-loop-k l =
    Backing l.self.words.now l.i l.initial.self.seek l.k-iterator.0 l.self.seek
    × (l.self.seek.head ≡ l.initial.self.seek.head) × (l.self.words.now ≡ l.initial.self.words.now)
