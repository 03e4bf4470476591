-- Laws of tests and counts below a bound.
use Rattle.std.proofs.Common.{◌≡◌, ℕ, zero, suc, ◌+◌, ◌*◌, ◌<◌, ◌≤◌, Bool, true, false, ◌||◌, ◌⊎◌, sym, refl, subst, inl, inr, arith}
use mathlib.Core.Bool.{false≢true}
use Rattle.std.proofs.lemmas.Bool.{cases_eq, or_cases, or_left, or_right}
use Rattle.flow.specs.Counts.{any_below, sum_n, bit, count}

-- bounded existence
pub any_found : (n : ℕ) (p : ℕ → Bool) → any_below n p ≡ true → (k : ℕ) × (k < n) × (p k ≡ true)
any_found zero p e = absurd (false≢true e)
any_found (suc n) p e = go (or_cases (p n) (any_below n p) e) (any_found n p)
  where
    go : (p n ≡ true) ⊎ (any_below n p ≡ true) → (any_below n p ≡ true → (k : ℕ) × (k < n) × (p k ≡ true))
        → (k : ℕ) × (k < suc n) × (p k ≡ true)
    go (inl q) ih = (n, omega arith, q)
    go (inr q) ih = let r = ih q in (r.0, omega arith, r.2)

pub any_from : (n : ℕ) (p : ℕ → Bool) (k : ℕ) → k < n → p k ≡ true → any_below n p ≡ true
any_from zero p k l e = absurd (omega arith)
any_from (suc n) p k l e = go (cases_eq k n) (λ m. any_from n p k m e)
  where
    go : (k ≡ n) ⊎ (k ≡ n → ⊥) → (k < n → any_below n p ≡ true) → (p n || any_below n p) ≡ true
    go (inl q) ih = or_left (p n) (any_below n p) (subst (λ z. p z ≡ true) q e)
    go (inr q) ih = or_right (p n) (any_below n p) (ih (omega arith))

-- sums of numbers
pub sum_n_le : (n : ℕ) (f h : ℕ → ℕ) → ((k : ℕ) → k < n → f k ≤ h k) → sum_n n f ≤ sum_n n h
unfolding sum_n
sum_n_le zero f h e = omega arith
sum_n_le (suc n) f h e = omega (arith, sum_n_le n f h (λ k l. e k (omega arith)), e n (omega arith))

pub sum_n_lt : (n : ℕ) (f h : ℕ → ℕ) (c : ℕ) → c < n → ((k : ℕ) → k < n → f k ≤ h k) → f c < h c → sum_n n f < sum_n n h
unfolding sum_n
sum_n_lt zero f h c b e s = absurd (omega arith)
sum_n_lt (suc n) f h c b e s = go (cases_eq c n) (λ l. sum_n_lt n f h c l (λ k m. e k (omega arith)) s)
  where
    go : (c ≡ n) ⊎ (c ≡ n → ⊥) → (c < n → sum_n n f < sum_n n h) → sum_n n f + f n < sum_n n h + h n
    go (inl q) ih =
        let s' : f n < h n = subst (λ z. f z < h z) q s in
        omega (arith, sum_n_le n f h (λ k m. e k (omega arith)))
    go (inr q) ih = let i : sum_n n f < sum_n n h = ih (omega arith) in omega (arith, e n (omega arith))

pub sum_n_most : (n m : ℕ) (f : ℕ → ℕ) → ((k : ℕ) → k < n → f k ≤ m) → sum_n n f ≤ n * m
unfolding sum_n
sum_n_most zero m f e = omega arith
sum_n_most (suc n) m f e = omega (arith, sum_n_most n m f (λ k l. e k (omega arith)), e n (omega arith))

pub bit_le : (a b : Bool) → (a ≡ true → b ≡ true) → bit a ≤ bit b
bit_le true true h = omega arith
bit_le true false h = absurd (false≢true (h refl))
bit_le false true h = omega arith
bit_le false false h = omega arith

pub bit_lt : (a b : Bool) → a ≡ false → b ≡ true → bit a < bit b
bit_lt a b p q = subst (λ z. bit z < bit b) (sym p) (subst (λ z. 0 < bit z) (sym q) (omega arith))

pub count_le : (n : ℕ) (p q : ℕ → Bool) → ((k : ℕ) → k < n → p k ≡ true → q k ≡ true) → count n p ≤ count n q
count_le n p q h = sum_n_le n (λ k. bit (p k)) (λ k. bit (q k)) (λ k l. bit_le (p k) (q k) (h k l))

pub count_lt : (n : ℕ) (p q : ℕ → Bool) (c : ℕ) → c < n → ((k : ℕ) → k < n → p k ≡ true → q k ≡ true)
    → p c ≡ false → q c ≡ true → count n p < count n q
count_lt n p q c l h a b =
    sum_n_lt n (λ k. bit (p k)) (λ k. bit (q k)) c l (λ k m. bit_le (p k) (q k) (h k m)) (bit_lt (p c) (q c) a b)

pub count_most : (n : ℕ) (p : ℕ → Bool) → count n p ≤ n
unfolding sum_n
count_most zero p = omega arith
count_most (suc n) p = omega (arith, count_most n p, bit_le (p n) true (λ e. refl))
