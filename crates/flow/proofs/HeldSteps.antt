-- A step's amounts are all held just if every amount after it is held, as it is where the kind is closed below.
use Rattle.std.proofs.Common.{◌≡◌, ℕ, zero, suc, ◌<◌, Bool, true, ◌&&◌, eqb, ◌⊎◌, List, [], ◌∷◌, sym, refl, ap, ◌∙◌, subst, inl, inr, arith}
use Rattle.std.proofs.lemmas.Bool.{and_parts, and_from, cases_eq, eq-eqb, ne_eqb, cond-true, cond-false}
use Rattle.groups.specs.Group.{Group, Ordered}
use Rattle.groups.specs.Sums.{Le, minus, sum_below}
use Rattle.groups.proofs.Order.{le_plus_right}
use Rattle.groups.proofs.Totals.{sum_nonneg}
use Rattle.flow.specs.Flow.{Task, State, Inv}
use Rattle.flow.specs.Routes.{Hop, amount, taken, augment, held_along, Route}
use Rattle.flow.specs.Outcomes.{step_held, AllHeld, ClosedBelow}
use Rattle.flow.proofs.Pushes.{Inside, inside_first}
use Rattle.flow.proofs.Steps.{route_inside}
use Rattle.flow.proofs.Held.{held_after, held_before}

module _ (G : Group) where
  open G use {Element as E}

  pub taken_here : (f : ℕ → E) (v : ℕ) (d : E) (j : ℕ) → j ≡ v → taken G f v d j ≡ minus G (f v) d
  unfolding taken
  taken_here f v d j p = cond-true (eqb j v) (minus G (f j) d) (f j) (eq-eqb j v p) ∙ ap (λ k. minus G (f k) d) p

  pub taken_elsewhere : (f : ℕ → E) (v : ℕ) (d : E) (j : ℕ) → (j ≡ v → ⊥) → taken G f v d j ≡ f j
  unfolding taken
  taken_elsewhere f v d j p = cond-false (eqb j v) (minus G (f j) d) (f j) (ne_eqb j v p)

  pub inside_last : (n v : ℕ) (hs : List Hop) (z : ℕ) → Inside G n v hs z → z < n
  inside_last n v [] z q = q.1
  inside_last n v (h ∷ hs) z q = inside_last n h.to hs z q.2

  module _ (held : E → Bool) where
    held_taken : (n : ℕ) (f : ℕ → E) (v : ℕ) (d : E) → ((j : ℕ) → j < n → held (f j) ≡ true) → held (minus G (f v) d) ≡ true
        → (j : ℕ) → j < n → held (taken G f v d j) ≡ true
    held_taken n f v d all e j l = go (cases_eq j v)
      where
        go : (j ≡ v) ⊎ (j ≡ v → ⊥) → held (taken G f v d j) ≡ true
        go (inl p) = ap held (taken_here f v d j p) ∙ e
        go (inr p) = ap held (taken_elsewhere f v d j p) ∙ all j l

    taken_held : (n : ℕ) (f : ℕ → E) (v : ℕ) (d : E) → v < n → ((j : ℕ) → j < n → held (taken G f v d j) ≡ true)
        → held (minus G (f v) d) ≡ true
    taken_held n f v d l all = ap held (sym (taken_here f v d v refl)) ∙ all v l

    module _ (t : Task E) (s : State E) (v : ℕ) (hs : List Hop) (z : ℕ) (q : Route G t s 0 v hs z) where
      pub step_kept : AllHeld G held t s → step_held G held s v hs z ≡ true → AllHeld G held t (augment G v hs z s)
      unfolding step_held
      step_kept all e =
          let d = amount G s v hs z in
          let p = and_parts (held_along G held d v hs z s.x) (held (minus G (s.g v) d) && held (minus G (s.r z) d)) e in
          let k = and_parts (held (minus G (s.g v) d)) (held (minus G (s.r z) d)) p.1 in
          record {
            x_held = held_after G t s held d 0 v hs z s.x q all.x_held p.0;
            g_held = held_taken t.n s.g v d all.g_held k.0;
            r_held = held_taken t.n s.r z d all.r_held k.1;
          }

      pub kept_step : AllHeld G held t (augment G v hs z s) → step_held G held s v hs z ≡ true
      unfolding step_held
      kept_step all =
          let d = amount G s v hs z in
          let within = route_inside G t s 0 v hs z q in
          and_from (held_along G held d v hs z s.x) (held (minus G (s.g v) d) && held (minus G (s.r z) d))
          (held_before G t s held d 0 v hs z s.x q all.x_held)
          (and_from (held (minus G (s.g v) d)) (held (minus G (s.r z) d))
          (taken_held t.n s.g v d (inside_first G t.n v hs z within) all.g_held)
          (taken_held t.n s.r z d (inside_last t.n v hs z within) all.r_held))

module _ (G : Group) (L : Ordered G) where
  open G use {Element as E, plus as ◌⊕◌, nil as o}
  open L use {comm, trans}

  infixl 65 ◌⊕◌
  le_plus_left : (a b : E) → Le G o a → Le G b (a ⊕ b)
  le_plus_left a b h = subst (Le G b) (comm b a) (le_plus_right G L b a h)

  -- a term is at most the sum of terms at least zero
  pub term_le_sum : (n : ℕ) (f : ℕ → E) → ((k : ℕ) → k < n → Le G o (f k)) → (k : ℕ) → k < n → Le G (f k) (sum_below G n f)
  term_le_sum zero f h k l = absurd (omega arith)
  term_le_sum (suc n) f h k l = go (cases_eq k n) (λ m. term_le_sum n f (λ i b. h i (omega arith)) k m)
    where
      go : (k ≡ n) ⊎ (k ≡ n → ⊥) → (k < n → Le G (f k) (sum_below G n f)) → Le G (f k) (sum_below G n f ⊕ f n)
      go (inl p) ih =
          subst (λ i. Le G (f i) (sum_below G n f ⊕ f n)) (sym p)
          (le_plus_left (sum_below G n f) (f n) (sum_nonneg G L n f (λ i b. h i (omega arith))))
      go (inr p) ih =
          trans (f k) (sum_below G n f) (sum_below G n f ⊕ f n) (ih (omega arith)) (le_plus_right G L (sum_below G n f) (f n) (h n (omega arith)))

  -- under the invariant every amount lies between zero and a weight
  pub closed_kept : (held : E → Bool) (t : Task E) (s : State E) → ClosedBelow G held → ((j : ℕ) → j < t.n → held (t.w j) ≡ true)
      → Inv G t s → AllHeld G held t s
  closed_kept held t s closed weights inv =
      record {
        x_held = λ j i lj li. closed (s.x j i) (t.w j) (weights j lj) (inv.x_least j i lj li) (trans (s.x j i) (row j) (t.w j) (term_le_sum t.n (λ k. s.x j k) (λ k lk. inv.x_least j k lj lk) i li) (row_most j lj));
        g_held = λ j l. closed (s.g j) (t.w j) (weights j l) (inv.g_least j l) (subst (Le G (s.g j)) (inv.rows j l) (le_plus_left (row j) (s.g j) (sum_nonneg G L t.n (λ i. s.x j i) (λ i li. inv.x_least j i l li))));
        r_held = λ i l. closed (s.r i) (t.w i) (weights i l) (inv.r_least i l) (subst (Le G (s.r i)) (inv.columns i l) (le_plus_left (column i) (s.r i) (sum_nonneg G L t.n (λ j. s.x j i) (λ j lj. inv.x_least j i lj l))));
      }
    where
      row : ℕ → E
      row j = sum_below G t.n (λ i. s.x j i)

      column : ℕ → E
      column i = sum_below G t.n (λ j. s.x j i)

      row_most : (j : ℕ) → j < t.n → Le G (row j) (t.w j)
      row_most j l = subst (Le G (row j)) (inv.rows j l) (le_plus_right G L (row j) (s.g j) (inv.g_least j l))
