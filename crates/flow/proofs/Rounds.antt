-- Laws of the rounds.
use Rattle.std.proofs.Common.{◌≡◌, ℕ, zero, suc, ◌<◌, ◌≤◌, Bool, true, false, ◌&&◌, ◌⊎◌, sym, refl, ◌∙◌, subst, inl, inr, true≢false, arith}
use mathlib.Core.Bool.{false≢true}
use Rattle.std.proofs.lemmas.Bool.{and_parts, and_from, or_cases, or_left, or_right, cases_eq, cases_lt}
use Rattle.groups.specs.Group.{Group}
use Rattle.groups.specs.Sums.{above}
use Rattle.flow.specs.Counts.{any_below, count}
use Rattle.flow.specs.Flow.{Task, State, near}
use Rattle.flow.specs.Levels.{within, met, At, MetAt}
use Rattle.flow.specs.Routes.{Link}
use Rattle.flow.proofs.Counting.{any_found, any_from, count_lt, count_most}

module _ (G : Group) (t : Task G.Element) (s : State G.Element) where
  pub met_found : (m i : ℕ) → met G t s m i ≡ true → (u : ℕ) × (u < t.n) × (within G t s m u ≡ true) × (t.permitted u i ≡ true)
  unfolding met
  met_found m i e =
      let f = any_found t.n (λ j. within G t s m j && t.permitted j i) e in
      let h = and_parts (within G t s m f.0) (t.permitted f.0 i) f.2 in
      (f.0, f.1, h.0, h.1)

  pub met_from : (m u i : ℕ) → u < t.n → within G t s m u ≡ true → t.permitted u i ≡ true → met G t s m i ≡ true
  unfolding met
  met_from m u i l e p =
      any_from t.n (λ j. within G t s m j && t.permitted j i) u l (and_from (within G t s m u) (t.permitted u i) e p)

  pub within_zero : (v : ℕ) → within G t s 0 v ≡ above G (s.g v)
  unfolding within
  within_zero v = refl

  pub within_found : (m v : ℕ) → within G t s (suc m) v ≡ true
      → (within G t s m v ≡ true) ⊎ ((i : ℕ) × (i < t.n) × (above G (s.x v i) ≡ true) × (met G t s m i ≡ true))
  unfolding within met
  within_found m v e = go (or_cases (within G t s m v) (any_below t.n (λ i. above G (s.x v i) && near t (within G t s m) i)) e)
    where
      go : (within G t s m v ≡ true) ⊎ (any_below t.n (λ i. above G (s.x v i) && near t (within G t s m) i) ≡ true)
          → (within G t s m v ≡ true) ⊎ ((i : ℕ) × (i < t.n) × (above G (s.x v i) ≡ true) × (near t (within G t s m) i ≡ true))
      go (inl q) = inl q
      go (inr q) =
          let f = any_found t.n (λ i. above G (s.x v i) && near t (within G t s m) i) q in
          let h = and_parts (above G (s.x v f.0)) (near t (within G t s m) f.0) f.2 in
          inr (f.0, f.1, h.0, h.1)

  pub within_later : (m v : ℕ) → within G t s m v ≡ true → within G t s (suc m) v ≡ true
  unfolding within
  within_later m v e = or_left (within G t s m v) (any_below t.n (λ i. above G (s.x v i) && near t (within G t s m) i)) e

  pub within_from : (m v i : ℕ) → i < t.n → above G (s.x v i) ≡ true → met G t s m i ≡ true → within G t s (suc m) v ≡ true
  unfolding within met
  within_from m v i l p e =
      or_right (within G t s m v) (any_below t.n (λ i. above G (s.x v i) && near t (within G t s m) i))
      (any_from t.n (λ i. above G (s.x v i) && near t (within G t s m) i) i l (and_from (above G (s.x v i)) (near t (within G t s m) i) p e))

  pub within_up : (m k v : ℕ) → m ≤ k → within G t s m v ≡ true → within G t s k v ≡ true
  within_up m zero v l e = subst (λ z. within G t s z v ≡ true) (omega arith) e
  within_up m (suc k) v l e = go (cases_eq m (suc k)) (λ h. within_up m k v h e)
    where
      go : (m ≡ suc k) ⊎ (m ≡ suc k → ⊥) → (m ≤ k → within G t s k v ≡ true) → within G t s (suc k) v ≡ true
      go (inl q) ih = subst (λ z. within G t s z v ≡ true) q e
      go (inr q) ih = within_later k v (ih (omega arith))

  pub met_up : (m k i : ℕ) → m ≤ k → met G t s m i ≡ true → met G t s k i ≡ true
  met_up m k i l e = let f = met_found m i e in met_from k f.0 i f.1 (within_up m k f.0 l f.2) f.3

  pub at_least : (m k v : ℕ) → At G t s m v → within G t s k v ≡ true → m ≤ k
  at_least m k v a e = go (cases_lt k m)
    where
      go : (k < m) ⊎ (m ≤ k) → m ≤ k
      go (inl q) = absurd (true≢false (sym e ∙ a.before k q))
      go (inr q) = q

  pub met_least : (m k i : ℕ) → MetAt G t s m i → met G t s k i ≡ true → m ≤ k
  met_least m k i a e = go (cases_lt k m)
    where
      go : (k < m) ⊎ (m ≤ k) → m ≤ k
      go (inl q) = absurd (true≢false (sym e ∙ a.before k q))
      go (inr q) = q

  -- a forward link: its receiver is come to no sooner than its giver
  pub link_order : (m v i : ℕ) → Link G t s m v i → (k : ℕ) → met G t s k i ≡ true → within G t s k v ≡ true
  link_order m v i link k e = within_up m k v (met_least m k i link.onto e) link.from.now

  -- a backward link
  pub back_order : (m v i : ℕ) → MetAt G t s m i → At G t s (suc m) v → (k : ℕ) → within G t s k v ≡ true → met G t s k i ≡ true
  back_order m v i a b k e = let h : suc m ≤ k = at_least (suc m) k v b e in met_up m k i (omega arith) a.now

  -- a giver first come to in round m has m others before it
  pub deep : (m v : ℕ) → v < t.n → At G t s m v → m < count t.n (within G t s m)
  deep zero v l a =
      let h = count_lt t.n (λ k. false) (within G t s 0) v l (λ k b e. absurd (false≢true e)) refl a.now in
      omega arith
  deep (suc m) v l a = go (within_found m v a.now) (λ u lu au. deep m u lu au)
    where
      go : (within G t s m v ≡ true) ⊎ ((i : ℕ) × (i < t.n) × (above G (s.x v i) ≡ true) × (met G t s m i ≡ true))
          → ((u : ℕ) → u < t.n → At G t s m u → m < count t.n (within G t s m)) → suc m < count t.n (within G t s (suc m))
      go (inl q) ih = absurd (true≢false (sym q ∙ a.before m (omega arith)))
      go (inr q) ih =
          let f = met_found m q.0 q.3 in
          let first : (k : ℕ) → k < m → (b : Bool) → within G t s k f.0 ≡ b → within G t s k f.0 ≡ false = λ k lk. elim [
            | true ↦ λ e. absurd (true≢false (sym (within_from k v q.0 q.1 q.2 (met_from k f.0 q.0 f.1 e f.3)) ∙ a.before (suc k) (omega arith)))
            | false ↦ λ e. e
          ] in
          let h : m < count t.n (within G t s m) = ih f.0 f.1 (record { now = f.2; before = λ k lk. first k lk (within G t s k f.0) refl }) in
          let c = count_lt t.n (within G t s m) (within G t s (suc m)) v l (λ k b e. within_later m k e) (a.before m (omega arith)) a.now in
          omega arith

  pub early : (m v : ℕ) → v < t.n → At G t s m v → m < t.n
  early m v l a = omega (arith, deep m v l a, count_most t.n (within G t s m))
