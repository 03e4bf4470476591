-- The checks of words and weights, one after another.
use Rattle.std.specs.List.{list_all, range_with_len}
use Rattle.std.proofs.lemmas.List.Folds.{list_all-append, list_all-map}
use Rattle.std.proofs.lemmas.List.FromFn.{map-range_with_len_more}
use Rattle.std.proofs.Common.{map, take, ap, ap₂, ◌≡◌, ℕ, zero, suc, ◌-◌, ◌^◌, ◌<◌, ◌≤◌, Bool, true, false, ◌&&◌, ltb, leb, ◌⊎◌, List, [], ◌∷◌, length, get_or, sym, refl, ◌∙◌, subst, inl, inr, add-one, arith}
use Rattle.std.proofs.lemmas.Nat.{pow_pos}
use Rattle.std.proofs.lemmas.Bool.{and_left, and_right, and_parts, cases_eq, le-leb, lt-leb, lt-ltb, le-ltb, cases_lt}
use Rattle.planner.specs.Calls.{all_below, all_first}

-- at most all ones is below the power
pub most_below : (p n : ℕ) → leb p (2 ^ n - 1) ≡ ltb p (2 ^ n)
most_below p n = go (cases_lt p (2 ^ n))
  where
    go : (p < 2 ^ n) ⊎ (2 ^ n ≤ p) → leb p (2 ^ n - 1) ≡ ltb p (2 ^ n)
    go (inl h) = le-leb p (2 ^ n - 1) (omega arith) ∙ sym (lt-ltb p (2 ^ n) h)
    go (inr h) = lt-leb p (2 ^ n - 1) (omega (arith, pow_pos n)) ∙ sym (le-ltb p (2 ^ n) h)

-- the tests of the numbers below n, as those of a list
pub below_listed : (n : ℕ) (p : ℕ → Bool) → list_all p (range_with_len 0 n) ≡ all_below n p
unfolding all_below
below_listed n p = sym (list_all-map (λ b. b) p (range_with_len 0 n)) ∙ go n
  where
    and_true : (b : Bool) → (b && true) ≡ b
    and_true true = refl
    and_true false = refl

    go : (m : ℕ) → list_all (λ b. b) (map p (range_with_len 0 m)) ≡ all_below m p
    go zero = refl
    go (suc m) =
        ap (list_all (λ b. b)) (ap (λ k. map p (range_with_len 0 k)) (sym (add-one m)) ∙ map-range_with_len_more p 0 m m (omega arith))
        ∙ list_all-append (λ b. b) (map p (range_with_len 0 m)) (p m ∷ []) ∙ ap₂ (λ a b. a && b) (go m) (and_true (p m))

pub all_not : (n : ℕ) (p : ℕ → Bool) (j : ℕ) → j < n → p j ≡ false → all_below n p ≡ false
unfolding all_below
all_not zero p j h e = absurd (omega arith)
all_not (suc n) p j h e = go (cases_eq j n) (λ l. all_not n p j l e)
  where
    go : (j ≡ n) ⊎ (j ≡ n → ⊥) → (j < n → all_below n p ≡ false) → (all_below n p && p n) ≡ false
    go (inl q) ih = and_right (all_below n p) (p n) (subst (λ i. p i ≡ false) q e)
    go (inr q) ih = and_left (all_below n p) (p n) (ih (omega arith))

pub all_at : (n : ℕ) (p : ℕ → Bool) → all_below n p ≡ true → (j : ℕ) → j < n → p j ≡ true
unfolding all_below
all_at zero p a j h = absurd (omega arith)
all_at (suc n) p a j h = go (cases_eq j n) (λ l. all_at n p (and_parts (all_below n p) (p n) a).0 j l)
  where
    go : (j ≡ n) ⊎ (j ≡ n → ⊥) → (j < n → p j ≡ true) → p j ≡ true
    go (inl q) ih = subst (λ i. p i ≡ true) (sym q) (and_parts (all_below n p) (p n) a).1
    go (inr q) ih = ih (omega arith)

module _ {V : Type 0} (p : V → Bool) where
  -- the tests of the first entries, as those of a list
  pub first_listed : (n : ℕ) (vs : List V) → list_all p (take n vs) ≡ all_first p n vs
  unfolding all_first
  first_listed zero vs = refl
  first_listed (suc n) [] = refl
  first_listed (suc n) (v ∷ vs) = ap (λ b. p v && b) (first_listed n vs)

  pub first_not : (n : ℕ) (vs : List V) (j : ℕ) (x : V) → j < n → j < length vs → x ≡ get_or vs j x → p x ≡ false → all_first p n vs ≡ false
  unfolding all_first
  first_not zero vs j x h l r f = absurd (omega arith)
  first_not (suc n) [] j x h l r f = absurd (omega arith)
  first_not (suc n) (v ∷ vs) zero x h l r f = and_left (p v) (all_first p n vs) (subst (λ y. p y ≡ false) r f)
  first_not (suc n) (v ∷ vs) (suc j) x h l r f = and_right (p v) (all_first p n vs) (first_not n vs j x (omega arith) (omega arith) r f)
