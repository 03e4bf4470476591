-- A sum or a difference that is held, and the table after it is written.
use Rattle.std.proofs.Common.{◌≡◌, ℕ, ◌+◌, ◌*◌, ◌<◌, Bool, true, cond, ◌&&◌, eqb, ◌⊎◌, List, length, set, is_some, Some, None, Option, sym, refl, ap, ◌∙◌, subst, ap₂, inl, inr, true≢false}
use mathlib.Core.Path.{fun_ext}
use Rattle.std.proofs.lemmas.Bool.{cases_eq, eq-eqb, ne_eqb, and_from, and_left, and_right, cond-true, cond-false}
use Rattle.groups.specs.Sums.{minus}
use Rattle.flow.specs.Routes.{bump, taken}
use Rattle.amounts.specs.Kind.{Kind, Stands, StandsFor}
use Rattle.planner.specs.declared.change.Change.{Change}
use Rattle.planner.specs.Changes.{changed, Changed}
use Rattle.planner.specs.Tables.{row, table}
use Rattle.planner.proofs.Entries.{row_here, row_else, table_here, table_else}

module _ {V : Type 0} (k : Kind V) where
  given : (test : Bool) (e : k.group.Element) (r : Option V) → test ≡ true → Stands k test e r → is_some r ≡ true
  given test e None t p = absurd (true≢false (sym t ∙ p))
  given test e (Some v) t p = refl

  taken_out : (test : Bool) (e : k.group.Element) (r : Option V) (v : V) → r ≡ Some v → Stands k test e r → StandsFor k v e
  taken_out test e r v q p = (subst (Stands k test e) q p).1

  -- x stands for e, and a change is made of it
  module _ (x : V) (c : Change V) (e : k.group.Element) (has : StandsFor k x e) (r : Option V)
      (made : Changed k c (k.element x) r) where
    pub change_given : k.held (changed k c e) ≡ true → is_some r ≡ true
    change_given h = given _ _ r (ap (λ y. k.held (changed k c y)) has.1 ∙ h) made

    pub change_stands : (v : V) → r ≡ Some v → StandsFor k v (changed k c e)
    change_stands v q =
        let t = taken_out _ _ r v q made in
        (t.0, t.1 ∙ ap (changed k c) has.1)

  pub table_bumped : (l l' : List V) (j i : ℕ) (y : V) (d : k.group.Element) → l' ≡ set l (64 * j + i) y → length l ≡ 4096 → j < 64 → i < 64
      → k.element y ≡ k.group.plus (table k l j i) d → table k l' ≡ bump k.group (table k l) j i d
  unfolding bump
  table_bumped l l' j i y d w e a b h = ap (table k) w ∙ fun_ext (λ m. fun_ext (λ n. go m n (cases_eq m j) (cases_eq n i)))
    where
      go : (m n : ℕ) → (m ≡ j) ⊎ (m ≡ j → ⊥) → (n ≡ i) ⊎ (n ≡ i → ⊥)
          → table k (set l (64 * j + i) y) m n ≡ cond (eqb m j && eqb n i) (k.group.plus (table k l m n) d) (table k l m n)
      go m n (inl p) (inl q) =
          ap₂ (table k (set l (64 * j + i) y)) p q ∙ table_here k l j i y e a b ∙ h
          ∙ ap₂ (λ u v. k.group.plus (table k l u v) d) (sym p) (sym q)
          ∙ sym (cond-true (eqb m j && eqb n i) (k.group.plus (table k l m n) d) (table k l m n) (and_from (eqb m j) (eqb n i) (eq-eqb m j p) (eq-eqb n i q)))
      go m n (inl p) (inr q) =
          table_else k l j i y m n b (λ t. q t.1)
          ∙ sym (cond-false (eqb m j && eqb n i) (k.group.plus (table k l m n) d) (table k l m n) (and_right (eqb m j) (eqb n i) (ne_eqb n i q)))
      go m n (inr p) q =
          table_else k l j i y m n b (λ t. p t.0)
          ∙ sym (cond-false (eqb m j && eqb n i) (k.group.plus (table k l m n) d) (table k l m n) (and_left (eqb m j) (eqb n i) (ne_eqb m j p)))

  pub row_lowered : (l l' : List V) (j : ℕ) (y : V) (d : k.group.Element) → l' ≡ set l j y → j < length l
      → k.element y ≡ minus k.group (row k l j) d → row k l' ≡ taken k.group (row k l) j d
  unfolding taken
  row_lowered l l' j y d w a h = ap (row k) w ∙ fun_ext (λ i. go i (cases_eq i j))
    where
      go : (i : ℕ) → (i ≡ j) ⊎ (i ≡ j → ⊥) → row k (set l j y) i ≡ cond (eqb i j) (minus k.group (row k l i) d) (row k l i)
      go i (inl p) =
          ap (row k (set l j y)) p ∙ row_here k l j y a ∙ h ∙ ap (λ u. minus k.group (row k l u) d) (sym p)
          ∙ sym (cond-true (eqb i j) (minus k.group (row k l i) d) (row k l i) (eq-eqb i j p))
      go i (inr p) = row_else k l j y i p ∙ sym (cond-false (eqb i j) (minus k.group (row k l i) d) (row k l i) (ne_eqb i j p))
