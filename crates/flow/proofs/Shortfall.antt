-- By how much a closed set outweighs all who may receive from it: by what is left to give.
use Rattle.std.proofs.Common.{◌≡◌, ℕ, ◌<◌, Bool, true, false, ◌&&◌, sym, refl, ap, ◌∙◌, ap₂, true≢false}
use Rattle.std.proofs.lemmas.Bool.{and_parts, and_from}
use Rattle.groups.specs.Group.{Group, Ordered}
use Rattle.groups.specs.Sums.{above, minus, sum_below, keep}
use Rattle.groups.proofs.Order.{undo, not_above_nil}
use Rattle.groups.proofs.Totals.{sum_ext, sum_plus, sum_nil, sum_swap, sum_keep}
use Rattle.flow.specs.Flow.{Task, State, Inv, Closed, near, weight_of}
use Rattle.flow.proofs.Counting.{any_found, any_from}

module _ (G : Group) (L : Ordered G) (t : Task G.Element) where
  open G use {Element as E, plus as ◌⊕◌, nil as o}
  open L use {comm, unit}

  infixl 65 ◌⊕◌
  keep_plus : (b : Bool) (a c : E) → keep G b (a ⊕ c) ≡ keep G b a ⊕ keep G b c
  keep_plus true a c = refl
  keep_plus false a c = sym (unit o)

  -- sum over j of the rows that S keeps
  kept_rows : (S : ℕ → Bool) (y : ℕ → ℕ → E) (g : ℕ → E)
      → ((j : ℕ) → j < t.n → sum_below G t.n (λ i. y j i) ⊕ g j ≡ t.w j)
      → weight_of G t S ≡ sum_below G t.n (λ j. sum_below G t.n (λ i. keep G (S j) (y j i))) ⊕ sum_below G t.n (λ j. keep G (S j) (g j))
  kept_rows S y g rows =
      sum_ext G L t.n (λ j. keep G (S j) (t.w j)) (λ j. sum_below G t.n (λ i. keep G (S j) (y j i)) ⊕ keep G (S j) (g j))
      (λ j l. ap (keep G (S j)) (sym (rows j l)) ∙ keep_plus (S j) (sum_below G t.n (λ i. y j i)) (g j) ∙ ap (λ z. z ⊕ keep G (S j) (g j)) (sum_keep G L t.n (S j) (λ i. y j i)))
      ∙ sum_plus G L t.n (λ j. sum_below G t.n (λ i. keep G (S j) (y j i))) (λ j. keep G (S j) (g j))

  module _ (s : State E) (S : ℕ → Bool) (inv : Inv G t s) (closed : Closed G t s S) where
    -- inside the set or outside, an amount is kept by its giver just if it is kept by its receiver
    kept_alike : (j i : ℕ) → j < t.n → i < t.n → keep G (S j) (s.x j i) ≡ keep G (near t S i) (s.x j i)
    kept_alike j i lj li = go (S j) (near t S i) refl refl
      where
        go : (a b : Bool) → S j ≡ a → near t S i ≡ b → keep G a (s.x j i) ≡ keep G b (s.x j i)
        go true true p q = refl
        go true false p q =
            let off : (b : Bool) → t.permitted j i ≡ b → s.x j i ≡ o = elim [
              | true ↦ λ e. absurd (true≢false (sym (any_from t.n (λ k. S k && t.permitted k i) j lj (and_from (S j) (t.permitted j i) p e)) ∙ q))
              | false ↦ λ e. inv.x_off j i lj li e
            ]
            in off (t.permitted j i) refl
        go false true p q =
            let f = any_found t.n (λ k. S k && t.permitted k i) q in
            let h = and_parts (S f.0) (t.permitted f.0 i) f.2 in
            let none : (b : Bool) → above G (s.x j i) ≡ b → o ≡ s.x j i = elim [
              | true ↦ λ e. absurd (true≢false (sym (closed.back f.0 i j f.1 li lj h.0 h.1 e) ∙ p))
              | false ↦ λ e. sym (not_above_nil G L (s.x j i) (inv.x_least j i lj li) e)
            ]
            in none (above G (s.x j i)) refl
        go false false p q = refl

    -- nobody outside the set has anything left to give
    kept_left : (j : ℕ) → j < t.n → keep G (S j) (s.g j) ≡ s.g j
    kept_left j l = go (S j) (above G (s.g j)) refl refl
      where
        go : (a b : Bool) → S j ≡ a → above G (s.g j) ≡ b → keep G a (s.g j) ≡ s.g j
        go true b p q = refl
        go false true p q = absurd (true≢false (sym (closed.starts j l q) ∙ p))
        go false false p q = sym (not_above_nil G L (s.g j) (inv.g_least j l) q)

    -- no receiver near the set has anything left to get
    kept_full : (i : ℕ) → i < t.n → keep G (near t S i) (s.r i) ≡ o
    kept_full i l = go (near t S i) refl
      where
        go : (b : Bool) → near t S i ≡ b → keep G b (s.r i) ≡ o
        go true q =
            let f = any_found t.n (λ k. S k && t.permitted k i) q in
            let h = and_parts (S f.0) (t.permitted f.0 i) f.2 in
            not_above_nil G L (s.r i) (inv.r_least i l) (closed.full f.0 i f.1 l h.0 h.1)
        go false q = refl

    -- what the set has given
    inside : E
    inside = sum_below G t.n (λ a. sum_below G t.n (λ i. keep G (S a) (s.x a i)))

    givers : weight_of G t S ≡ inside ⊕ sum_below G t.n s.g
    unfolding inside
    givers =
        kept_rows S s.x s.g inv.rows
        ∙ ap (λ z. inside ⊕ z) (sum_ext G L t.n (λ k. keep G (S k) (s.g k)) s.g kept_left)

    swapped : sum_below G t.n (λ i. sum_below G t.n (λ a. keep G (near t S i) (s.x a i))) ≡ inside
    unfolding inside
    swapped =
        sum_swap G L t.n t.n (λ i a. keep G (near t S i) (s.x a i))
        ∙ sum_ext G L t.n (λ a. sum_below G t.n (λ i. keep G (near t S i) (s.x a i))) (λ a. sum_below G t.n (λ i. keep G (S a) (s.x a i)))
        (λ a la. sum_ext G L t.n (λ i. keep G (near t S i) (s.x a i)) (λ i. keep G (S a) (s.x a i)) (λ i li. sym (kept_alike a i la li)))

    receivers : weight_of G t (near t S) ≡ inside
    receivers =
        kept_rows (near t S) (λ i a. s.x a i) s.r inv.columns
        ∙ ap₂ ◌⊕◌ swapped (sum_nil G L t.n (λ i. keep G (near t S i) (s.r i)) kept_full)
        ∙ unit inside

    pub weights_apart : weight_of G t S ≡ weight_of G t (near t S) ⊕ sum_below G t.n s.g
    weights_apart = givers ∙ ap (λ z. z ⊕ sum_below G t.n s.g) (sym receivers)

    pub left_to_give : sum_below G t.n s.g ≡ minus G (weight_of G t S) (weight_of G t (near t S))
    left_to_give =
        sym (ap (λ z. minus G z (weight_of G t (near t S))) (weights_apart ∙ comm (weight_of G t (near t S)) (sum_below G t.n s.g))
        ∙ undo G L (sum_below G t.n s.g) (weight_of G t (near t S)))
