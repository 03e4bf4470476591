-- A number as a set of places: the places of its binary digits that are 1, the lowest digit at place 0.
use Rattle.std.specs.Prelude.{◌≡◌, ℕ, zero, suc, ◌+◌, ◌*◌, ◌/◌, ◌%◌, ◌<◌, Bool, true, false, cond, ◌==◌}

-- whether a place is in the set of a number
unfoldable pub bit : ℕ → ℕ → Bool
bit w zero = w % 2 == 1
bit w (suc k) = bit (w / 2) k

-- the number whose lowest m binary digits are the set, member k at place k
unfoldable pub word_of : ℕ → (ℕ → Bool) → ℕ
word_of zero S = 0
word_of (suc m) S = cond (S 0) 1 0 + 2 * word_of m (λ k. S (suc k))

-- the word with place k taken or left out
abbrev pub marked : ℕ → ℕ → Bool → ℕ
marked w k on = word_of 64 (λ j. cond (j == k) on (bit w j))

-- k is the lowest place of w, and v is w without it
pub record Lowest (w k v : ℕ) : Type 0 where
  pub inside : k < 64
  pub set : bit w k ≡ true
  pub below : (j : ℕ) → j < k → bit w j ≡ false
  pub rest : (j : ℕ) → bit v j ≡ cond (j == k) false (bit w j)
  pub less : v < w
