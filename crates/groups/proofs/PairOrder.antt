-- Pairs over two ordered groups are an ordered group.
use Rattle.std.proofs.Common.{◌≡◌, Bool, true, false, cond, ◌&&◌, ◌⊎◌, sym, refl, ap, ◌∙◌, subst, ap₂, inl, inr}
use Rattle.std.proofs.lemmas.Bool.{and_parts, and_from}
use Rattle.groups.specs.Group.{Group, Ordered}
use Rattle.groups.specs.Sums.{Le, Lt}
use Rattle.groups.specs.Groups.{Pair, le_pair, pairs}
use Rattle.groups.proofs.Order.{lt_le, not_both, lt_le_trans, lt_shift, le_of_eq}

module _ (U V : Group) (P : Ordered U) (Q : Ordered V) where
  abbrev pair : U.Element → V.Element → Pair U V
  pair u v = record { upper = u; lower = v }

  pair_assoc : (a b c : Pair U V) → (pairs U V).plus ((pairs U V).plus a b) c ≡ (pairs U V).plus a ((pairs U V).plus b c)
  pair_assoc a b c = ap₂ pair (P.assoc a.upper b.upper c.upper) (Q.assoc a.lower b.lower c.lower)

  pair_comm : (a b : Pair U V) → (pairs U V).plus a b ≡ (pairs U V).plus b a
  pair_comm a b = ap₂ pair (P.comm a.upper b.upper) (Q.comm a.lower b.lower)

  pair_unit : (a : Pair U V) → (pairs U V).plus a (pairs U V).nil ≡ a
  pair_unit a = ap₂ pair (P.unit a.upper) (Q.unit a.lower)

  pair_inverse : (a : Pair U V) → (pairs U V).plus a ((pairs U V).neg a) ≡ (pairs U V).nil
  pair_inverse a = ap₂ pair (P.inverse a.upper) (Q.inverse a.lower)

  -- a pair is at most another in one of two ways
  below_upper : (a b : Pair U V) → Lt U a.upper b.upper → le_pair U V a b ≡ true
  below_upper a b h = ap (λ t. cond t (U.le a.upper b.upper && V.le a.lower b.lower) true) h

  same_upper : (a b : Pair U V) → a.upper ≡ b.upper → Le V a.lower b.lower → le_pair U V a b ≡ true
  same_upper a b e h =
      ap (λ t. cond t (U.le a.upper b.upper && V.le a.lower b.lower) true)
      (le_of_eq U P b.upper a.upper (sym e))
      ∙ and_from (U.le a.upper b.upper) (V.le a.lower b.lower) (le_of_eq U P a.upper b.upper e) h

  which : (a b : Pair U V) → le_pair U V a b ≡ true
      → (Lt U a.upper b.upper) ⊎ ((a.upper ≡ b.upper) × Le V a.lower b.lower)
  which a b h = go (U.le b.upper a.upper) refl
    where
      go : (t : Bool) → U.le b.upper a.upper ≡ t
          → (Lt U a.upper b.upper) ⊎ ((a.upper ≡ b.upper) × Le V a.lower b.lower)
      go true e =
          let both : (U.le a.upper b.upper && V.le a.lower b.lower) ≡ true = sym (ap (λ t. cond t (U.le a.upper b.upper && V.le a.lower b.lower) true) e) ∙ h in
          let parts = and_parts (U.le a.upper b.upper) (V.le a.lower b.lower) both in
          inr (P.antisym a.upper b.upper parts.0 e, parts.1)
      go false e = inl e

  pair_refl : (a : Pair U V) → le_pair U V a a ≡ true
  pair_refl a = same_upper a a refl (Q.reflexive a.lower)

  pair_antisym : (a b : Pair U V) → le_pair U V a b ≡ true → le_pair U V b a ≡ true → a ≡ b
  pair_antisym a b h k = go (which a b h) (which b a k)
    where
      go : (Lt U a.upper b.upper) ⊎ ((a.upper ≡ b.upper) × Le V a.lower b.lower)
          → (Lt U b.upper a.upper) ⊎ ((b.upper ≡ a.upper) × Le V b.lower a.lower) → a ≡ b
      go (inl p) (inl q) = absurd (not_both U P a.upper b.upper p (lt_le U P b.upper a.upper q))
      go (inl p) (inr q) = absurd (not_both U P a.upper b.upper p (le_of_eq U P b.upper a.upper q.0))
      go (inr p) (inl q) = absurd (not_both U P b.upper a.upper q (le_of_eq U P a.upper b.upper p.0))
      go (inr p) (inr q) = ap₂ pair p.0 (Q.antisym a.lower b.lower p.1 q.1)

  pair_trans : (a b c : Pair U V) → le_pair U V a b ≡ true → le_pair U V b c ≡ true → le_pair U V a c ≡ true
  pair_trans a b c h k = go (which a b h) (which b c k)
    where
      go : (Lt U a.upper b.upper) ⊎ ((a.upper ≡ b.upper) × Le V a.lower b.lower)
          → (Lt U b.upper c.upper) ⊎ ((b.upper ≡ c.upper) × Le V b.lower c.lower) → le_pair U V a c ≡ true
      go (inl p) (inl q) =
          below_upper a c (lt_le_trans U P a.upper b.upper c.upper p (lt_le U P b.upper c.upper q))
      go (inl p) (inr q) = below_upper a c (subst (λ z. Lt U a.upper z) q.0 p)
      go (inr p) (inl q) = below_upper a c (subst (λ z. Lt U z c.upper) (sym p.0) q)
      go (inr p) (inr q) =
          same_upper a c (p.0 ∙ q.0) (Q.trans a.lower b.lower c.lower p.1 q.1)

  pair_total : (a b : Pair U V) → (le_pair U V a b ≡ true) ⊎ (le_pair U V b a ≡ true)
  pair_total a b = go (U.le b.upper a.upper) refl (U.le a.upper b.upper) refl
    where
      go : (s : Bool) → U.le b.upper a.upper ≡ s → (t : Bool) → U.le a.upper b.upper ≡ t
          → (le_pair U V a b ≡ true) ⊎ (le_pair U V b a ≡ true)
      go false p t q = inl (below_upper a b p)
      go true p false q = inr (below_upper b a q)
      go true p true q = lower (P.antisym a.upper b.upper q p) (Q.total a.lower b.lower)
        where
          lower : a.upper ≡ b.upper → (Le V a.lower b.lower) ⊎ (Le V b.lower a.lower)
              → (le_pair U V a b ≡ true) ⊎ (le_pair U V b a ≡ true)
          lower e (inl h) = inl (same_upper a b e h)
          lower e (inr h) = inr (same_upper b a (sym e) h)

  pair_shift : (a b c : Pair U V) → le_pair U V a b ≡ true → le_pair U V ((pairs U V).plus a c) ((pairs U V).plus b c) ≡ true
  pair_shift a b c h = go (which a b h)
    where
      go : (Lt U a.upper b.upper) ⊎ ((a.upper ≡ b.upper) × Le V a.lower b.lower)
          → le_pair U V ((pairs U V).plus a c) ((pairs U V).plus b c) ≡ true
      go (inl p) = below_upper ((pairs U V).plus a c) ((pairs U V).plus b c) (lt_shift U P a.upper b.upper c.upper p)
      go (inr p) =
          same_upper ((pairs U V).plus a c) ((pairs U V).plus b c) (ap (λ z. U.plus z c.upper) p.0)
          (Q.shift a.lower b.lower c.lower p.1)

  pub pairs_ordered : Ordered (pairs U V)
  pairs_ordered =
      record {
        assoc = pair_assoc;
        comm = pair_comm;
        unit = pair_unit;
        inverse = pair_inverse;
        reflexive = pair_refl;
        antisym = pair_antisym;
        trans = pair_trans;
        total = pair_total;
        shift = pair_shift;
      }
