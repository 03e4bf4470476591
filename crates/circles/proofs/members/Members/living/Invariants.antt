use Rattle.std.proofs.Common.{◌≡◌, ℕ, ◌&&◌, ltb}
use Rattle.words.specs.Words.{bit}
use Rattle.circles.specs.Members.{member_at}
use Rattle.circles.proofs.members.Members.living.Given as goal

abbrev pub invariant-loop-k : goal.invariant-loop-k
invariant-loop-k l = (i : ℕ) → bit l.living i ≡ (ltb i l.k && (member_at l.self i).alive)
