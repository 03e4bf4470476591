use Rattle.std.proofs.Common.{◌≡◌, ℕ, ◌<◌, length, get_or}
use Rattle.circles.specs.Members.{member_at}
use Rattle.circles.proofs.weigh.weights.Given as goal

abbrev pub invariant-loop-j : goal.invariant-loop-j
invariant-loop-j g l = record {
  size : length l.weights ≡ 64;
  weighed : (k : ℕ) (d : _) → k < l.j → get_or l.weights k d ≡ g.K.Weigh.weight (member_at l.members k);
}
