use Rattle.std.proofs.Common.{◌≡◌, ℕ, ◌&&◌, ltb, length, get_or}
use Rattle.words.specs.Words.{bit}
use Rattle.planner.proofs.call.rules.Given as goal

abbrev pub invariant-loop-j : goal.invariant-loop-j
invariant-loop-j l = (length l.r ≡ 64) × ((a i : ℕ) → bit (get_or l.r a 0) i ≡ (ltb a l.j && (ltb i l.n && bit (get_or l.permissions a 0) i)))
