-- What giving along a route does to the amounts.
use Rattle.std.proofs.Common.{◌≡◌, ℕ, ◌<◌, Bool, true, false, cond, ◌&&◌, eqb, ◌⊎◌, List, [], ◌∷◌, sym, refl, ap, ◌∙◌, subst, inl, inr, true≢false}
use mathlib.Core.Path.{fun_ext}
use Rattle.std.proofs.lemmas.Bool.{and_from, and_left, and_right, cases_eq, eq-eqb, ne_eqb, cond-true, cond-false}
use Rattle.groups.specs.Group.{Group, Ordered}
use Rattle.groups.specs.Sums.{Le, above, sum_below, keep, lesser}
use Rattle.groups.proofs.Order.{undo, minus_plus, swap_last, le_of_eq, plus_nonneg, le_plus_right, minus_nonneg, le_cancel}
use Rattle.groups.proofs.Totals.{sum_ext, sum_one}
use Rattle.flow.specs.Routes.{Hop, bump, push, least, taken}

module _ (G : Group) where
  open G use {Element as E, plus as ◌⊕◌, le}

  infixl 65 ◌⊕◌
  pub bump_here : (x : ℕ → ℕ → E) (v c : ℕ) (d : E) → bump G x v c d v c ≡ x v c ⊕ d
  unfolding bump
  bump_here x v c d =
      cond-true (eqb v v && eqb c c) (x v c ⊕ d) (x v c) (and_from (eqb v v) (eqb c c) (eq-eqb v v refl) (eq-eqb c c refl))

  pub bump_row : (x : ℕ → ℕ → E) (v c : ℕ) (d : E) (a b : ℕ) → (a ≡ v → ⊥) → bump G x v c d a b ≡ x a b
  unfolding bump
  bump_row x v c d a b h = cond-false (eqb a v && eqb b c) (x a b ⊕ d) (x a b) (and_left (eqb a v) (eqb b c) (ne_eqb a v h))

  pub bump_column : (x : ℕ → ℕ → E) (v c : ℕ) (d : E) (a b : ℕ) → (b ≡ c → ⊥) → bump G x v c d a b ≡ x a b
  unfolding bump
  bump_column x v c d a b h = cond-false (eqb a v && eqb b c) (x a b ⊕ d) (x a b) (and_right (eqb a v) (eqb b c) (ne_eqb b c h))

  -- what holds at the place and what holds elsewhere
  pub bump_cases : (x : ℕ → ℕ → E) (v c : ℕ) (d : E) (a b : ℕ)
      → ((a ≡ v) × (b ≡ c) × (bump G x v c d a b ≡ x a b ⊕ d)) ⊎ (bump G x v c d a b ≡ x a b)
  bump_cases x v c d a b = go (cases_eq a v) (cases_eq b c)
    where
      go : (a ≡ v) ⊎ (a ≡ v → ⊥) → (b ≡ c) ⊎ (b ≡ c → ⊥)
          → ((a ≡ v) × (b ≡ c) × (bump G x v c d a b ≡ x a b ⊕ d)) ⊎ (bump G x v c d a b ≡ x a b)
      go (inl p) (inl q) =
          inl (p, q, subst (λ z. bump G x v c d z b ≡ x z b ⊕ d) (sym p) (subst (λ z. bump G x v c d v z ≡ x v z ⊕ d) (sym q) (bump_here x v c d)))
      go (inl p) (inr q) = inr (bump_column x v c d a b q)
      go (inr p) q = inr (bump_row x v c d a b p)

  -- every place of the hops is below n
  abbrev pub Inside : ℕ → ℕ → List Hop → ℕ → Type 0
  Inside n v [] z = (v < n) × (z < n)
  Inside n v (h ∷ hs) z = (v < n) × (h.over < n) × Inside n h.to hs z

  pub inside_first : (n v : ℕ) (hs : List Hop) (z : ℕ) → Inside n v hs z → v < n
  inside_first n v [] z q = q.0
  inside_first n v (h ∷ hs) z q = q.0

  -- the amount: positive, at most each, and one of them
  abbrev pub Covered : (ℕ → ℕ → E) → E → List Hop → Type 0
  Covered x d [] = Unit {0}
  Covered x d (h ∷ hs) = Le G d (x h.to h.over) × Covered x d hs

  abbrev pub Meets : (ℕ → ℕ → E) → E → List Hop → Type 0
  Meets x d [] = ⊥
  Meets x d (h ∷ hs) = (d ≡ x h.to h.over) ⊎ Meets x d hs

  pub lesser_one : (a b : E) → (lesser G a b ≡ a) ⊎ (lesser G a b ≡ b)
  lesser_one a b = go (le a b)
    where
      go : (p : Bool) → (cond p a b ≡ a) ⊎ (cond p a b ≡ b)
      go true = inl refl
      go false = inr refl

  pub lesser_pos : (a b : E) → above G a ≡ true → above G b ≡ true → above G (lesser G a b) ≡ true
  lesser_pos a b h k = go (le a b)
    where
      go : (p : Bool) → above G (cond p a b) ≡ true
      go true = h
      go false = k

  pub least_one : (x : ℕ → ℕ → E) (a : E) (hs : List Hop) → (least G x a hs ≡ a) ⊎ Meets x (least G x a hs) hs
  least_one x a [] = inl refl
  least_one x a (h ∷ hs) = go (lesser_one (x h.to h.over) (least G x a hs)) (least_one x a hs)
    where
      down : (ks : List Hop) (d c : E) → d ≡ c → Meets x c ks → Meets x d ks
      down ks d c e m = subst (λ z. Meets x z ks) (sym e) m

      go : (least G x a (h ∷ hs) ≡ x h.to h.over) ⊎ (least G x a (h ∷ hs) ≡ least G x a hs)
          → (least G x a hs ≡ a) ⊎ Meets x (least G x a hs) hs
          → (least G x a (h ∷ hs) ≡ a) ⊎ Meets x (least G x a (h ∷ hs)) (h ∷ hs)
      go (inl p) q = inr (inl p)
      go (inr p) (inl q) = inl (p ∙ q)
      go (inr p) (inr q) = inr (inr (down hs (least G x a (h ∷ hs)) (least G x a hs) p q))

module _ (G : Group) (L : Ordered G) where
  open G use {Element as E, plus as ◌⊕◌, nil as o, neg, le}
  open L use {assoc, comm, unit, inverse, reflexive, trans, total}

  infixl 65 ◌⊕◌
  pub bump_least : (x : ℕ → ℕ → E) (v c : ℕ) (d : E) (a b : ℕ) → Le G o d → Le G o (x a b) → Le G o (bump G x v c d a b)
  bump_least x v c d a b h k = go (bump_cases G x v c d a b)
    where
      go : ((a ≡ v) × (b ≡ c) × (bump G x v c d a b ≡ x a b ⊕ d)) ⊎ (bump G x v c d a b ≡ x a b) → Le G o (bump G x v c d a b)
      go (inl q) = subst (Le G o) (sym q.2) (plus_nonneg G L (x a b) d k h)
      go (inr q) = subst (Le G o) (sym q) k

  pub bump_up : (x : ℕ → ℕ → E) (v c : ℕ) (d : E) (a b : ℕ) → Le G o d → Le G (x a b) (bump G x v c d a b)
  bump_up x v c d a b h = go (bump_cases G x v c d a b)
    where
      go : ((a ≡ v) × (b ≡ c) × (bump G x v c d a b ≡ x a b ⊕ d)) ⊎ (bump G x v c d a b ≡ x a b) → Le G (x a b) (bump G x v c d a b)
      go (inl q) = subst (Le G (x a b)) (sym q.2) (le_plus_right G L (x a b) d h)
      go (inr q) = le_of_eq G L (x a b) (bump G x v c d a b) (sym q)

  neg_down : (a d : E) → Le G o d → Le G (a ⊕ neg d) a
  neg_down a d h = le_cancel G L (a ⊕ neg d) a d (subst (λ z. Le G z (a ⊕ d)) (sym (minus_plus G L a d)) (le_plus_right G L a d h))

  pub bump_down : (x : ℕ → ℕ → E) (v c : ℕ) (d : E) (a b : ℕ) → Le G o d → Le G (bump G x v c (neg d) a b) (x a b)
  bump_down x v c d a b h = go (bump_cases G x v c (neg d) a b)
    where
      go : ((a ≡ v) × (b ≡ c) × (bump G x v c (neg d) a b ≡ x a b ⊕ neg d)) ⊎ (bump G x v c (neg d) a b ≡ x a b) → Le G (bump G x v c (neg d) a b) (x a b)
      go (inl q) = subst (λ z. Le G z (x a b)) (sym q.2) (neg_down (x a b) d h)
      go (inr q) = le_of_eq G L (bump G x v c (neg d) a b) (x a b) q

  pub bump_floor : (x : ℕ → ℕ → E) (v c : ℕ) (d : E) (a b : ℕ) → Le G d (x v c) → Le G o (x a b) → Le G o (bump G x v c (neg d) a b)
  bump_floor x v c d a b h k = go (bump_cases G x v c (neg d) a b)
    where
      go : ((a ≡ v) × (b ≡ c) × (bump G x v c (neg d) a b ≡ x a b ⊕ neg d)) ⊎ (bump G x v c (neg d) a b ≡ x a b) → Le G o (bump G x v c (neg d) a b)
      go (inl q) =
          subst (Le G o) (sym q.2)
          (minus_nonneg G L (x a b) d (subst (λ z. Le G d (x z b)) (sym q.0) (subst (λ z. Le G d (x v z)) (sym q.1) h)))
      go (inr q) = subst (Le G o) (sym q) k

  -- the sums of rows and columns
  pub row_bump : (n : ℕ) (x : ℕ → ℕ → E) (v c : ℕ) (d : E) (a : ℕ) → c < n
      → sum_below G n (λ i. bump G x v c d a i) ≡ sum_below G n (λ i. x a i) ⊕ keep G (eqb a v) d
  row_bump n x v c d a l = go (cases_eq a v)
    where
      go : (a ≡ v) ⊎ (a ≡ v → ⊥) → sum_below G n (λ i. bump G x v c d a i) ≡ sum_below G n (λ i. x a i) ⊕ keep G (eqb a v) d
      go (inl p) =
          sum_one G L n (λ i. bump G x v c d a i) (λ i. x a i) c d l (λ k m q. bump_column G x v c d a k q)
          (subst (λ z. bump G x v c d z c ≡ x z c ⊕ d) (sym p) (bump_here G x v c d))
          ∙ ap (λ z. sum_below G n (λ i. x a i) ⊕ z) (sym (cond-true (eqb a v) d o (eq-eqb a v p)))
      go (inr p) =
          sum_ext G L n (λ i. bump G x v c d a i) (λ i. x a i) (λ k m. bump_row G x v c d a k p)
          ∙ sym (unit (sum_below G n (λ i. x a i)))
          ∙ ap (λ z. sum_below G n (λ i. x a i) ⊕ z) (sym (cond-false (eqb a v) d o (ne_eqb a v p)))

  pub column_bump : (n : ℕ) (x : ℕ → ℕ → E) (v c : ℕ) (d : E) (b : ℕ) → v < n
      → sum_below G n (λ j. bump G x v c d j b) ≡ sum_below G n (λ j. x j b) ⊕ keep G (eqb b c) d
  column_bump n x v c d b l = go (cases_eq b c)
    where
      go : (b ≡ c) ⊎ (b ≡ c → ⊥) → sum_below G n (λ j. bump G x v c d j b) ≡ sum_below G n (λ j. x j b) ⊕ keep G (eqb b c) d
      go (inl p) =
          sum_one G L n (λ j. bump G x v c d j b) (λ j. x j b) v d l (λ k m q. bump_row G x v c d k b q)
          (subst (λ z. bump G x v c d v z ≡ x v z ⊕ d) (sym p) (bump_here G x v c d))
          ∙ ap (λ z. sum_below G n (λ j. x j b) ⊕ z) (sym (cond-true (eqb b c) d o (eq-eqb b c p)))
      go (inr p) =
          sum_ext G L n (λ j. bump G x v c d j b) (λ j. x j b) (λ k m. bump_column G x v c d k b p)
          ∙ sym (unit (sum_below G n (λ j. x j b)))
          ∙ ap (λ z. sum_below G n (λ j. x j b) ⊕ z) (sym (cond-false (eqb b c) d o (ne_eqb b c p)))

  keep_away : (a d : E) (p : Bool) → (a ⊕ keep G p d) ⊕ keep G p (neg d) ≡ a
  keep_away a d true = undo G L a d
  keep_away a d false = unit (a ⊕ o) ∙ unit a

  keep_back : (a d : E) (p : Bool) → (a ⊕ keep G p (neg d)) ⊕ keep G p d ≡ a
  keep_back a d true = minus_plus G L a d
  keep_back a d false = unit (a ⊕ o) ∙ unit a

  pub row_push : (n : ℕ) (d : E) (v : ℕ) (hs : List Hop) (z : ℕ) (x : ℕ → ℕ → E) (a : ℕ) → Inside G n v hs z
      → sum_below G n (λ i. push G d v hs z x a i) ≡ sum_below G n (λ i. x a i) ⊕ keep G (eqb a v) d
  row_push n d v [] z x a q = row_bump n x v z d a q.1
  row_push n d v (h ∷ hs) z x a q =
      row_push n d h.to hs z (bump G (bump G x v h.over d) h.to h.over (neg d)) a q.2
      ∙ ap (λ y. y ⊕ keep G (eqb a h.to) d) (row_bump n (bump G x v h.over d) h.to h.over (neg d) a q.1)
      ∙ keep_back (sum_below G n (λ i. bump G x v h.over d a i)) d (eqb a h.to)
      ∙ row_bump n x v h.over d a q.1

  pub column_push : (n : ℕ) (d : E) (v : ℕ) (hs : List Hop) (z : ℕ) (x : ℕ → ℕ → E) (b : ℕ) → Inside G n v hs z
      → sum_below G n (λ j. push G d v hs z x j b) ≡ sum_below G n (λ j. x j b) ⊕ keep G (eqb b z) d
  column_push n d v [] z x b q = column_bump n x v z d b q.0
  column_push n d v (h ∷ hs) z x b q =
      column_push n d h.to hs z (bump G (bump G x v h.over d) h.to h.over (neg d)) b q.2
      ∙ ap (λ y. y ⊕ keep G (eqb b z) d)
      (column_bump n (bump G x v h.over d) h.to h.over (neg d) b (inside_first G n h.to hs z q.2)
      ∙ ap (λ y. y ⊕ keep G (eqb b h.over) (neg d)) (column_bump n x v h.over d b q.0)
      ∙ keep_away (sum_below G n (λ j. x j b)) d (eqb b h.over))

  -- what is left after d is taken
  pub taken_there : (f : ℕ → E) (v : ℕ) (d : E) (a : E) → (j : ℕ) → (a ⊕ keep G (eqb j v) d) ⊕ taken G f v d j ≡ a ⊕ f j
  unfolding taken
  taken_there f v d a j = go (eqb j v)
    where
      go : (p : Bool) → (a ⊕ keep G p d) ⊕ cond p (f j ⊕ neg d) (f j) ≡ a ⊕ f j
      go true = assoc a d (f j ⊕ neg d) ∙ ap (λ z. a ⊕ z) (comm d (f j ⊕ neg d) ∙ minus_plus G L (f j) d)
      go false = ap (λ z. z ⊕ f j) (unit a)

  pub taken_floor : (f : ℕ → E) (v : ℕ) (d : E) (j : ℕ) → Le G d (f v) → Le G o (f j) → Le G o (taken G f v d j)
  unfolding taken
  taken_floor f v d j h k = go (cases_eq j v)
    where
      go : (j ≡ v) ⊎ (j ≡ v → ⊥) → Le G o (cond (eqb j v) (f j ⊕ neg d) (f j))
      go (inl p) = subst (Le G o) (sym (cond-true (eqb j v) (f j ⊕ neg d) (f j) (eq-eqb j v p))) (minus_nonneg G L (f j) d (subst (λ z. Le G d (f z)) (sym p) h))
      go (inr p) = subst (Le G o) (sym (cond-false (eqb j v) (f j ⊕ neg d) (f j) (ne_eqb j v p))) k

  pub taken_down : (f : ℕ → E) (v : ℕ) (d : E) (j : ℕ) → Le G o d → Le G (taken G f v d j) (f j)
  unfolding taken
  taken_down f v d j h = go (eqb j v)
    where
      go : (p : Bool) → Le G (cond p (f j ⊕ neg d) (f j)) (f j)
      go true = neg_down (f j) d h
      go false = reflexive (f j)

  pub taken_all : (f : ℕ → E) (v : ℕ) (d : E) → d ≡ f v → taken G f v d v ≡ o
  unfolding taken
  taken_all f v d h = cond-true (eqb v v) (f v ⊕ neg d) (f v) (eq-eqb v v refl) ∙ ap (λ z. f v ⊕ neg z) h ∙ inverse (f v)

  pub lesser_left : (a b : E) → Le G (lesser G a b) a
  lesser_left a b = go (le a b) refl (total a b)
    where
      go : (p : Bool) → le a b ≡ p → (Le G a b) ⊎ (Le G b a) → Le G (cond p a b) a
      go true e q = reflexive a
      go false e (inl q) = absurd (true≢false (sym q ∙ e))
      go false e (inr q) = q

  pub lesser_right : (a b : E) → Le G (lesser G a b) b
  lesser_right a b = go (le a b) refl
    where
      go : (p : Bool) → le a b ≡ p → Le G (cond p a b) b
      go true e = e
      go false e = reflexive b

  pub least_first : (x : ℕ → ℕ → E) (a : E) (hs : List Hop) → Le G (least G x a hs) a
  least_first x a [] = reflexive a
  least_first x a (h ∷ hs) =
      trans (lesser G (x h.to h.over) (least G x a hs)) (least G x a hs) a (lesser_right (x h.to h.over) (least G x a hs)) (least_first x a hs)

  pub covered_below : (x : ℕ → ℕ → E) (d c : E) (hs : List Hop) → Le G d c → Covered G x c hs → Covered G x d hs
  covered_below x d c [] l q = tt
  covered_below x d c (h ∷ hs) l q = (trans d c (x h.to h.over) l q.0, covered_below x d c hs l q.1)

  pub least_covered : (x : ℕ → ℕ → E) (a : E) (hs : List Hop) → Covered G x (least G x a hs) hs
  least_covered x a [] = tt
  least_covered x a (h ∷ hs) = (
    lesser_left (x h.to h.over) (least G x a hs),
    covered_below x (lesser G (x h.to h.over) (least G x a hs)) (least G x a hs) hs (lesser_right (x h.to h.over) (least G x a hs)) (least_covered x a hs),
  )

  -- changes of one place each may be made in any order
  pub bump_swap : (x : ℕ → ℕ → E) (v c : ℕ) (d : E) (u b : ℕ) (e : E) → bump G (bump G x v c d) u b e ≡ bump G (bump G x u b e) v c d
  unfolding bump
  bump_swap x v c d u b e = fun_ext λ i. fun_ext λ j. go (eqb i v && eqb j c) (eqb i u && eqb j b) (x i j)
    where
      go : (p q : Bool) (a : E) → cond q (cond p (a ⊕ d) a ⊕ e) (cond p (a ⊕ d) a) ≡ cond p (cond q (a ⊕ e) a ⊕ d) (cond q (a ⊕ e) a)
      go true true a = swap_last G L a d e
      go true false a = refl
      go false true a = refl
      go false false a = refl

  -- so a route's changes may be made from its end
  pub push_bump : (d : E) (v : ℕ) (hs : List Hop) (z : ℕ) (x : ℕ → ℕ → E) (u b : ℕ) (e : E)
      → push G d v hs z (bump G x u b e) ≡ bump G (push G d v hs z x) u b e
  push_bump d v [] z x u b e = bump_swap x u b e v z d
  push_bump d v (h ∷ hs) z x u b e =
      ap (push G d h.to hs z)
      (ap (λ y. bump G y h.to h.over (neg d)) (bump_swap x u b e v h.over d) ∙ bump_swap (bump G x v h.over d) u b e h.to h.over (neg d))
      ∙ push_bump d h.to hs z (bump G (bump G x v h.over d) h.to h.over (neg d)) u b e

  pub push_back : (d : E) (v : ℕ) (h : Hop) (hs : List Hop) (z : ℕ) (x : ℕ → ℕ → E)
      → push G d v (h ∷ hs) z x ≡ bump G (bump G (push G d h.to hs z x) h.to h.over (neg d)) v h.over d
  push_back d v h hs z x =
      push_bump d h.to hs z (bump G x v h.over d) h.to h.over (neg d)
      ∙ ap (λ y. bump G y h.to h.over (neg d)) (push_bump d h.to hs z x v h.over d)
      ∙ bump_swap (push G d h.to hs z x) v h.over d h.to h.over (neg d)
