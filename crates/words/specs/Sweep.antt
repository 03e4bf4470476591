-- A sweep over the numbers below a bound, in rising number, that acts where a test of the state holds.
use Rattle.std.specs.Prelude.{◌≡◌, ℕ, zero, suc, ◌<◌, ◌≤◌, Bool, false, cond}
use Rattle.words.specs.Words.{bit}

module _ {S : Type 0} (test : ℕ → S → Bool) (act : ℕ → S → S) where
  -- the state after the numbers below the bound were swept in rising number
  unfoldable pub sweep : ℕ → S → S
  sweep zero s = s
  sweep (suc k) s = let p = sweep k s in cond (test k p) (act k p) p

  -- A sweep below n that began at s₀ has come to s, and the places of w are the numbers at which it still has to act.
  pub record Swept (n : ℕ) (s₀ : S) (w : ℕ) (s : S) : Type 0 where
    pub upto : ℕ
    pub within : upto ≤ n
    pub made : s ≡ sweep upto s₀
    pub low : (k : ℕ) → k < upto → bit w k ≡ false
    pub high : (k : ℕ) → n ≤ k → bit w k ≡ false
    pub left : (k : ℕ) → upto ≤ k → k < n → bit w k ≡ test k s
