-- A word is the number of its own places.
use Rattle.std.proofs.Common.{◌≡◌, ℕ, zero, suc, ◌+◌, ◌*◌, ◌/◌, ◌%◌, ◌^◌, ◌<◌, Bool, cond, eqb, sym, refl, ap, ◌∙◌, ap₂, pow-suc, arith}
use mathlib.Core.Path.{fun_ext}
use Rattle.words.specs.Words.{bit, word_of, marked}

-- a word is the number of its own places
pub word_same : (m v : ℕ) → v < 2 ^ m → word_of m (bit v) ≡ v
unfolding word_of bit
word_same zero v h = omega arith
word_same (suc m) v h = ap₂ (λ (a b : ℕ). a + 2 * b) (digit (v % 2) (omega arith)) (word_same m (v / 2) half) ∙ whole
  where
    half : v / 2 < 2 ^ m
    half = omega (arith, pow-suc 2 m)

    digit : (d : ℕ) → d < 2 → cond (eqb d 1) 1 0 ≡ d
    digit zero l = refl
    digit (suc zero) l = refl
    digit (suc (suc d)) l = absurd (omega arith)

    whole : v % 2 + 2 * (v / 2) ≡ v
    whole = omega arith

-- a word whose places are those of a set is the number of the set
pub word_of_set : (m v : ℕ) (S : ℕ → Bool) → v < 2 ^ m → ((k : ℕ) → bit v k ≡ S k) → v ≡ word_of m S
word_of_set m v S h e = sym (word_same m v h) ∙ ap (word_of m) (fun_ext e)

-- a word with the places of a marked word is that word
pub is_marked : (v w k : ℕ) (on : Bool) → v < 2 ^ 64 → ((j : ℕ) → bit v j ≡ cond (eqb j k) on (bit w j)) → v ≡ marked w k on
is_marked v w k on h are = word_of_set 64 v (λ j. cond (eqb j k) on (bit w j)) h are
