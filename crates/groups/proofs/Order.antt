-- Laws of a totally ordered abelian group.
use Rattle.std.proofs.Common.{◌≡◌, Bool, true, false, not, ◌⊎◌, sym, refl, ap, ◌∙◌, subst, inl, inr, true≢false}
use mathlib.Core.Bool.{false≢true}
use Rattle.groups.specs.Group.{Group, Ordered}
use Rattle.groups.specs.Sums.{Le, Lt, above, minus}

module _ (G : Group) (L : Ordered G) where
  open G use {Element as E, plus as ◌⊕◌, nil as o, neg, le}
  open L use {assoc, comm, unit, inverse, reflexive, antisym, trans, total, shift}

  infixl 65 ◌⊕◌
  pub left_comm : (a b c : E) → a ⊕ (b ⊕ c) ≡ b ⊕ (a ⊕ c)
  left_comm a b c = sym (assoc a b c) ∙ ap (λ z. z ⊕ c) (comm a b) ∙ assoc b a c

  pub unit_left : (a : E) → o ⊕ a ≡ a
  unit_left a = comm o a ∙ unit a

  -- (a + b) + (c + d) = (a + c) + (b + d)
  pub cross : (a b c d : E) → (a ⊕ b) ⊕ (c ⊕ d) ≡ (a ⊕ c) ⊕ (b ⊕ d)
  cross a b c d = simp (assoc, left_comm)

  pub swap_last : (a b c : E) → (a ⊕ b) ⊕ c ≡ (a ⊕ c) ⊕ b
  swap_last a b c = simp (assoc, comm)

  pub undo : (a c : E) → (a ⊕ c) ⊕ neg c ≡ a
  undo a c = assoc a c (neg c) ∙ ap (λ z. a ⊕ z) (inverse c) ∙ unit a

  pub minus_plus : (a c : E) → (a ⊕ neg c) ⊕ c ≡ a
  minus_plus a c = swap_last a (neg c) c ∙ undo a c

  pub cancel : (a b c : E) → a ⊕ c ≡ b ⊕ c → a ≡ b
  cancel a b c e = sym (undo a c) ∙ ap (λ z. z ⊕ neg c) e ∙ undo b c

  pub le_cancel : (a b c : E) → Le G (a ⊕ c) (b ⊕ c) → Le G a b
  le_cancel a b c h =
      let k = shift (a ⊕ c) (b ⊕ c) (neg c) h in
      rw (undo a c, undo b c) at k

  -- a term moves across
  pub across : (a b c : E) → a ⊕ c ≡ b → a ≡ minus G b c
  across a b c e = sym (undo a c) ∙ ap (λ z. z ⊕ neg c) e

  pub le_across : (a b c : E) → Le G (a ⊕ c) b → Le G a (minus G b c)
  le_across a b c h = let k = shift (a ⊕ c) b (neg c) h in rw (undo a c) at k

  pub le_of_eq : (a b : E) → a ≡ b → Le G a b
  le_of_eq a b e = subst (λ z. Le G a z) e (reflexive a)

  pub plus_le : (a b c d : E) → Le G a b → Le G c d → Le G (a ⊕ c) (b ⊕ d)
  plus_le a b c d h k =
      trans (a ⊕ c) (b ⊕ c) (b ⊕ d) (shift a b c h)
      (let m = shift c d b k in rw (comm c b, comm d b) at m)

  pub plus_nonneg : (a b : E) → Le G o a → Le G o b → Le G o (a ⊕ b)
  plus_nonneg a b h k = let m = plus_le o a o b h k in rw (unit o) at m

  pub le_plus_right : (a b : E) → Le G o b → Le G a (a ⊕ b)
  le_plus_right a b h = let m = plus_le a a o b (reflexive a) h in rw (unit a) at m

  pub minus_nonneg : (a d : E) → Le G d a → Le G o (minus G a d)
  minus_nonneg a d h = let m = shift d a (neg d) h in rw (inverse d) at m

  -- strict order, said by the test that fails
  pub lt_le : (a b : E) → Lt G a b → Le G a b
  lt_le a b h = go (total a b)
    where
      go : (Le G a b) ⊎ (Le G b a) → Le G a b
      go (inl k) = k
      go (inr k) = absurd (true≢false (sym k ∙ h))

  pub not_both : (a b : E) → Lt G a b → Le G b a → ⊥
  not_both a b h k = true≢false (sym k ∙ h)

  pub lt_from : (a b : E) → (Le G b a → ⊥) → Lt G a b
  lt_from a b h = go (le b a) refl
    where
      go : (t : Bool) → le b a ≡ t → le b a ≡ false
      go true e = absurd (h e)
      go false e = e

  pub le_lt_trans : (a b c : E) → Le G a b → Lt G b c → Lt G a c
  le_lt_trans a b c h k = lt_from a c (λ m. not_both b c k (trans c a b m h))

  pub lt_le_trans : (a b c : E) → Lt G a b → Le G b c → Lt G a c
  lt_le_trans a b c h k = lt_from a c (λ m. not_both a b h (trans b c a k m))

  pub lt_shift : (a b c : E) → Lt G a b → Lt G (a ⊕ c) (b ⊕ c)
  lt_shift a b c h = lt_from (a ⊕ c) (b ⊕ c) (λ m. not_both a b h (le_cancel b a c m))

  pub lt_shift_left : (a b c : E) → Lt G a b → Lt G (c ⊕ a) (c ⊕ b)
  lt_shift_left a b c h = let m = lt_shift a b c h in rw (comm a c, comm b c) at m

  pub lt_le_plus : (a b c d : E) → Lt G a b → Le G c d → Lt G (a ⊕ c) (b ⊕ d)
  lt_le_plus a b c d h k =
      lt_le_trans (a ⊕ c) (b ⊕ c) (b ⊕ d) (lt_shift a b c h)
      (let m = shift c d b k in rw (comm c b, comm d b) at m)

  pub le_lt_plus : (a b c d : E) → Le G a b → Lt G c d → Lt G (a ⊕ c) (b ⊕ d)
  le_lt_plus a b c d h k = le_lt_trans (a ⊕ c) (b ⊕ c) (b ⊕ d) (shift a b c h) (lt_shift_left c d b k)

  -- the test of being above zero
  pub above_lt : (a : E) → above G a ≡ true → Lt G o a
  above_lt a h = go (le a o) refl h
    where
      go : (t : Bool) → le a o ≡ t → not (le a o) ≡ true → le a o ≡ false
      go true e k = absurd (false≢true (sym (ap not e) ∙ k))
      go false e k = e

  pub lt_above : (a : E) → Lt G o a → above G a ≡ true
  lt_above a h = ap not h

  pub not_above_le : (a : E) → above G a ≡ false → Le G a o
  not_above_le a h = go (le a o) refl h
    where
      go : (t : Bool) → le a o ≡ t → not (le a o) ≡ false → le a o ≡ true
      go true e k = e
      go false e k = absurd (true≢false (sym (ap not e) ∙ k))

  pub not_above_nil : (a : E) → Le G o a → above G a ≡ false → a ≡ o
  not_above_nil a h k = antisym a o (not_above_le a k) h

  pub nil_not_above : (a : E) → a ≡ o → above G a ≡ false
  nil_not_above a e = ap not (le_of_eq a o e)

  pub above_nonneg : (a : E) → above G a ≡ true → Le G o a
  above_nonneg a h = lt_le o a (above_lt a h)

  pub above_mono : (a b : E) → Le G a b → above G a ≡ true → above G b ≡ true
  above_mono a b h k = lt_above b (lt_le_trans o a b (above_lt a k) h)
