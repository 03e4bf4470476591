-- Laws of finite sums.
use Rattle.std.proofs.Common.{◌≡◌, ℕ, zero, suc, ◌<◌, Bool, true, false, ◌⊎◌, sym, refl, ap, ◌∙◌, subst, ap₂, inl, inr, arith}
use Rattle.std.proofs.lemmas.Bool.{cases_eq}
use Rattle.groups.specs.Group.{Group, Ordered}
use Rattle.groups.specs.Sums.{Le, Lt, sum_below, keep}
use Rattle.groups.proofs.Order.{cross, swap_last, plus_le, plus_nonneg, lt_le_plus, le_lt_plus, not_both, le_of_eq}

module _ (G : Group) (L : Ordered G) where
  open G use {Element as E, plus as ◌⊕◌, nil as o, neg, le}
  open L use {assoc, comm, unit, inverse, reflexive, antisym, trans, total, shift}

  infixl 65 ◌⊕◌
  pub sum_ext : (n : ℕ) (f h : ℕ → E) → ((k : ℕ) → k < n → f k ≡ h k) → sum_below G n f ≡ sum_below G n h
  sum_ext zero f h e = refl
  sum_ext (suc n) f h e = ap₂ ◌⊕◌ (sum_ext n f h (λ k l. e k (omega arith))) (e n (omega arith))

  pub sum_plus : (n : ℕ) (f h : ℕ → E) → sum_below G n (λ k. f k ⊕ h k) ≡ sum_below G n f ⊕ sum_below G n h
  sum_plus zero f h = sym (unit o)
  sum_plus (suc n) f h =
      ap (λ z. z ⊕ (f n ⊕ h n)) (sum_plus n f h) ∙ cross G L (sum_below G n f) (sum_below G n h) (f n) (h n)

  pub sum_nil : (n : ℕ) (f : ℕ → E) → ((k : ℕ) → k < n → f k ≡ o) → sum_below G n f ≡ o
  sum_nil zero f e = refl
  sum_nil (suc n) f e = ap₂ ◌⊕◌ (sum_nil n f (λ k l. e k (omega arith))) (e n (omega arith)) ∙ unit o

  pub sum_swap : (n m : ℕ) (f : ℕ → ℕ → E)
      → sum_below G n (λ j. sum_below G m (λ i. f j i)) ≡ sum_below G m (λ i. sum_below G n (λ j. f j i))
  sum_swap zero m f = sym (sum_nil m (λ i. o) (λ k l. refl))
  sum_swap (suc n) m f =
      ap (λ z. z ⊕ sum_below G m (λ i. f n i)) (sum_swap n m f)
      ∙ sym (sum_plus m (λ i. sum_below G n (λ j. f j i)) (λ i. f n i))

  pub sum_le : (n : ℕ) (f h : ℕ → E) → ((k : ℕ) → k < n → Le G (f k) (h k)) → Le G (sum_below G n f) (sum_below G n h)
  sum_le zero f h e = reflexive o
  sum_le (suc n) f h e =
      plus_le G L (sum_below G n f) (sum_below G n h) (f n) (h n) (sum_le n f h (λ k l. e k (omega arith))) (e n (omega arith))

  pub sum_nonneg : (n : ℕ) (f : ℕ → E) → ((k : ℕ) → k < n → Le G o (f k)) → Le G o (sum_below G n f)
  sum_nonneg zero f e = reflexive o
  sum_nonneg (suc n) f e =
      plus_nonneg G L (sum_below G n f) (f n) (sum_nonneg n f (λ k l. e k (omega arith))) (e n (omega arith))

  pub sum_lt : (n : ℕ) (f h : ℕ → E) (c : ℕ) → c < n → ((k : ℕ) → k < n → Le G (f k) (h k)) → Lt G (f c) (h c)
      → Lt G (sum_below G n f) (sum_below G n h)
  sum_lt zero f h c b e s = absurd (omega arith)
  sum_lt (suc n) f h c b e s = go (cases_eq c n) (λ l. sum_lt n f h c l (λ k m. e k (omega arith)) s)
    where
      go : (c ≡ n) ⊎ (c ≡ n → ⊥) → (c < n → Lt G (sum_below G n f) (sum_below G n h))
          → Lt G (sum_below G n f ⊕ f n) (sum_below G n h ⊕ h n)
      go (inl q) ih =
          le_lt_plus G L (sum_below G n f) (sum_below G n h) (f n) (h n) (sum_le n f h (λ k m. e k (omega arith)))
          (subst (λ z. Lt G (f z) (h z)) q s)
      go (inr q) ih = lt_le_plus G L (sum_below G n f) (sum_below G n h) (f n) (h n) (ih (omega arith)) (e n (omega arith))

  -- one changed term
  pub sum_one : (n : ℕ) (f h : ℕ → E) (c : ℕ) (d : E) → c < n → ((k : ℕ) → k < n → (k ≡ c → ⊥) → f k ≡ h k)
      → f c ≡ h c ⊕ d → sum_below G n f ≡ sum_below G n h ⊕ d
  sum_one zero f h c d b e s = absurd (omega arith)
  sum_one (suc n) f h c d b e s = go (cases_eq c n) (λ l. sum_one n f h c d l (λ k m. e k (omega arith)) s)
    where
      go : (c ≡ n) ⊎ (c ≡ n → ⊥) → (c < n → sum_below G n f ≡ sum_below G n h ⊕ d)
          → sum_below G n f ⊕ f n ≡ (sum_below G n h ⊕ h n) ⊕ d
      go (inl q) ih =
          ap₂ ◌⊕◌ (sum_ext n f h (λ k m. e k (omega arith) (omega arith))) (subst (λ z. f z ≡ h z ⊕ d) q s)
          ∙ sym (assoc (sum_below G n h) (h n) d)
      go (inr q) ih =
          ap₂ ◌⊕◌ (ih (omega arith)) (e n (omega arith) (omega arith)) ∙ swap_last G L (sum_below G n h) d (h n)

  -- a sum of terms at least zero that is zero has only zeros
  pub sum_zeros : (n : ℕ) (f : ℕ → E) → ((k : ℕ) → k < n → Le G o (f k)) → sum_below G n f ≡ o
      → (k : ℕ) → k < n → f k ≡ o
  sum_zeros n f e s k l = antisym (f k) o (top (le (f k) o) refl) (e k l)
    where
      top : (t : Bool) → le (f k) o ≡ t → Le G (f k) o
      top true q = q
      top false q =
          absurd
          (not_both G L (sum_below G n (λ i. o)) (sum_below G n f) (sum_lt n (λ i. o) f k l e q)
          (le_of_eq G L (sum_below G n f) (sum_below G n (λ i. o)) (s ∙ sym (sum_nil n (λ i. o) (λ i m. refl)))))

  pub sum_keep : (n : ℕ) (b : Bool) (f : ℕ → E) → keep G b (sum_below G n f) ≡ sum_below G n (λ i. keep G b (f i))
  sum_keep n true f = refl
  sum_keep n false f = sym (sum_nil n (λ i. o) (λ i m. refl))
