-- Sets of members as words, none of which has a place at n or above it.
use Rattle.std.specs.Prelude.{◌≡◌, ℕ, ◌≤◌, false, List, length, slice_index}
use Rattle.words.specs.Words.{bit}

-- no place at n or above it
pub record Fitted (n : ℕ) (rules : List ℕ) (starts : ℕ) (above : List ℕ) : Type 0 where
  pub size : n ≤ 64
  pub rows : length rules ≡ 64
  pub columns : length above ≡ 64
  pub givers : (k : ℕ) → n ≤ k → bit starts k ≡ false
  pub permits : (j k : ℕ) → n ≤ k → bit (slice_index rules j) k ≡ false
  pub holds : (i k : ℕ) → n ≤ k → bit (slice_index above i) k ≡ false
