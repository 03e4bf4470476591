-- A route writes each place once: all that it writes is held just if all amounts are held after it.
use Rattle.std.proofs.Common.{◌≡◌, ℕ, suc, ◌<◌, Bool, true, false, ◌&&◌, ◌⊎◌, List, [], ◌∷◌, sym, ap, ◌∙◌, ap₂, inl, inr, true≢false, arith}
use Rattle.std.proofs.lemmas.Bool.{and_parts, and_from}
use Rattle.groups.specs.Group.{Group}
use Rattle.flow.specs.Flow.{Task, State}
use Rattle.flow.specs.Levels.{within, met}
use Rattle.flow.specs.Routes.{Hop, bump, push, held_along, Route}
use Rattle.flow.proofs.Pushes.{bump_here, bump_row, bump_cases, inside_first}
use Rattle.flow.proofs.Steps.{route_first, route_inside, hopped, hop_later, push_sooner}

module _ (G : Group) (t : Task G.Element) (s : State G.Element) (held : G.Element → Bool) where
  open G use {Element as E, plus as ◌⊕◌, neg}

  infixl 65 ◌⊕◌
  held_later : (d : E) (m k v : ℕ) (hs : List Hop) (z : ℕ) (x y : ℕ → ℕ → E) → k < m → Route G t s m v hs z
      → ((a b : ℕ) → met G t s k b ≡ false → y a b ≡ x a b) → held_along G held d v hs z x ≡ held_along G held d v hs z y
  held_later d m k v [] z x y l q same = ap (λ u. held (u ⊕ d)) (sym (same v z (q.onto.before k l)))
  held_later d m k v (h ∷ hs) z x y l q same =
      ap₂ ◌&&◌ (ap (λ u. held (u ⊕ d)) (sym (same v h.over (q.0.onto.before k l))))
      (ap₂ ◌&&◌ (ap (λ u. held (u ⊕ neg d)) (sym (same h.to h.over (q.0.onto.before k l))))
      (held_later d (suc m) k h.to hs z x y (omega arith) q.2 same))

  module _ (d : E) (m v : ℕ) (h : Hop) (hs : List Hop) (z : ℕ) (x : ℕ → ℕ → E) (q : Route G t s m v (h ∷ hs) z) where
    apart : h.to ≡ v → ⊥
    apart p =
        true≢false (sym q.0.from.now ∙ ap (within G t s m) (sym p) ∙ (route_first G t s (suc m) h.to hs z q.2).before m (omega arith))

    out_value : hopped G t s d v h x v h.over ≡ x v h.over ⊕ d
    out_value = bump_row G (bump G x v h.over d) h.to h.over (neg d) v h.over (λ p. apart (sym p)) ∙ bump_here G x v h.over d

    back_value : hopped G t s d v h x h.to h.over ≡ x h.to h.over ⊕ neg d
    back_value =
        bump_here G (bump G x v h.over d) h.to h.over (neg d) ∙ ap (λ u. u ⊕ neg d) (bump_row G x v h.over d h.to h.over apart)

  AllHeld : (ℕ → ℕ → E) → Type 0
  AllHeld x = (a b : ℕ) → a < t.n → b < t.n → held (x a b) ≡ true

  pub held_after : (d : E) (m v : ℕ) (hs : List Hop) (z : ℕ) (x : ℕ → ℕ → E) → Route G t s m v hs z
      → ((a b : ℕ) → a < t.n → b < t.n → held (x a b) ≡ true) → held_along G held d v hs z x ≡ true
      → (a b : ℕ) → a < t.n → b < t.n → held (push G d v hs z x a b) ≡ true
  held_after d m v [] z x q all e a b la lb = go (bump_cases G x v z d a b)
    where
      go : ((a ≡ v) × (b ≡ z) × (bump G x v z d a b ≡ x a b ⊕ d)) ⊎ (bump G x v z d a b ≡ x a b) → held (bump G x v z d a b) ≡ true
      go (inl p) = ap held (p.2 ∙ ap₂ (λ i j. x i j ⊕ d) p.0 p.1) ∙ e
      go (inr p) = ap held p ∙ all a b la lb
  held_after d m v (h ∷ hs) z x q all e a b la lb =
      held_after d (suc m) h.to hs z (hopped G t s d v h x) q.2 between
      (sym (held_later d (suc m) m h.to hs z x (hopped G t s d v h x) (omega arith) q.2 (hop_later G t s d v h x m q.0.onto.now)) ∙ w.1) a b la lb
    where
      u : (held (x v h.over ⊕ d) ≡ true) × ((held (x h.to h.over ⊕ neg d) && held_along G held d h.to hs z x) ≡ true)
      u = and_parts (held (x v h.over ⊕ d)) (held (x h.to h.over ⊕ neg d) && held_along G held d h.to hs z x) e

      w : (held (x h.to h.over ⊕ neg d) ≡ true) × (held_along G held d h.to hs z x ≡ true)
      w = and_parts (held (x h.to h.over ⊕ neg d)) (held_along G held d h.to hs z x) u.1

      between : (i j : ℕ) → i < t.n → j < t.n → held (hopped G t s d v h x i j) ≡ true
      between i j li lj = back (bump_cases G (bump G x v h.over d) h.to h.over (neg d) i j)
        where
          out : ((i ≡ v) × (j ≡ h.over) × (bump G x v h.over d i j ≡ x i j ⊕ d)) ⊎ (bump G x v h.over d i j ≡ x i j) → held (bump G x v h.over d i j) ≡ true
          out (inl p) = ap held (p.2 ∙ ap₂ (λ k l. x k l ⊕ d) p.0 p.1) ∙ u.0
          out (inr p) = ap held p ∙ all i j li lj

          back : ((i ≡ h.to) × (j ≡ h.over) × (hopped G t s d v h x i j ≡ bump G x v h.over d i j ⊕ neg d)) ⊎ (hopped G t s d v h x i j ≡ bump G x v h.over d i j) → held (hopped G t s d v h x i j) ≡ true
          back (inl p) = ap held (ap₂ (hopped G t s d v h x) p.0 p.1 ∙ back_value d m v h hs z x q) ∙ w.0
          back (inr p) = ap held p ∙ out (bump_cases G x v h.over d i j)

  pub held_before : (d : E) (m v : ℕ) (hs : List Hop) (z : ℕ) (x : ℕ → ℕ → E) → Route G t s m v hs z
      → ((a b : ℕ) → a < t.n → b < t.n → held (push G d v hs z x a b) ≡ true) → held_along G held d v hs z x ≡ true
  held_before d m v [] z x q all = ap held (sym (bump_here G x v z d)) ∙ all v z q.giver q.receiver
  held_before d m v (h ∷ hs) z x q all =
      and_from (held (x v h.over ⊕ d)) (held (x h.to h.over ⊕ neg d) && held_along G held d h.to hs z x)
      (ap held (sym (push_sooner G t s d (suc m) h.to hs z (hopped G t s d v h x) q.2 v h.over m (omega arith) q.0.onto.now ∙ out_value d m v h hs z x q)) ∙ all v h.over q.0.giver q.0.receiver)
      (and_from (held (x h.to h.over ⊕ neg d)) (held_along G held d h.to hs z x)
      (ap held (sym (push_sooner G t s d (suc m) h.to hs z (hopped G t s d v h x) q.2 h.to h.over m (omega arith) q.0.onto.now ∙ back_value d m v h hs z x q)) ∙ all h.to h.over (inside_first G t.n h.to hs z (route_inside G t s (suc m) h.to hs z q.2)) q.0.receiver)
      (held_later d (suc m) m h.to hs z x (hopped G t s d v h x) (omega arith) q.2 (hop_later G t s d v h x m q.0.onto.now)
      ∙ held_before d (suc m) h.to hs z (hopped G t s d v h x) q.2 all))
