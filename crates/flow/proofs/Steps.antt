-- One step along a shortest route keeps the invariant, and what it changes.
use Rattle.std.proofs.Common.{◌≡◌, ℕ, suc, ◌<◌, Bool, true, false, ◌⊎◌, List, [], ◌∷◌, sym, refl, ap, ◌∙◌, subst, ap₂, inl, inr, true≢false, arith}
use Rattle.groups.specs.Group.{Group, Ordered}
use Rattle.groups.specs.Sums.{Le, above, sum_below}
use Rattle.groups.proofs.Order.{above_mono, nil_not_above}
use Rattle.flow.specs.Flow.{Task, State, Inv}
use Rattle.flow.specs.Levels.{within, met, At, MetAt}
use Rattle.flow.specs.Routes.{Hop, bump, push, least, taken, give, Link, Route}
use Rattle.flow.proofs.Pushes.{bump_here, bump_row, bump_column, bump_cases, bump_least, bump_up, bump_down, bump_floor, Inside, inside_first, row_push, column_push, taken_there, taken_floor, Covered, Meets}

module _ (G : Group) (t : Task G.Element) (s : State G.Element) where
  open G use {Element as E, plus as ◌⊕◌, neg}

  infixl 65 ◌⊕◌
  pub route_first : (m v : ℕ) (hs : List Hop) (z : ℕ) → Route G t s m v hs z → At G t s m v
  route_first m v [] z q = q.from
  route_first m v (h ∷ hs) z q = q.0.from

  pub route_inside : (m v : ℕ) (hs : List Hop) (z : ℕ) → Route G t s m v hs z → Inside G t.n v hs z
  route_inside m v [] z q = (q.giver, q.receiver)
  route_inside m v (h ∷ hs) z q = (q.0.giver, q.0.receiver, route_inside (suc m) h.to hs z q.2)

  -- the amounts after one hop
  abbrev pub hopped : E → ℕ → Hop → (ℕ → ℕ → E) → ℕ → ℕ → E
  hopped d v h x = bump G (bump G x v h.over d) h.to h.over (neg d)

  -- a hop touches no column that is come to later
  pub hop_later : (d : E) (v : ℕ) (h : Hop) (x : ℕ → ℕ → E) (m : ℕ) → met G t s m h.over ≡ true
      → (a b : ℕ) → met G t s m b ≡ false → hopped d v h x a b ≡ x a b
  hop_later d v h x m e a b f =
      bump_column G (bump G x v h.over d) h.to h.over (neg d) a b other ∙ bump_column G x v h.over d a b other
    where
      other : b ≡ h.over → ⊥
      other q = true≢false (sym e ∙ ap (met G t s m) (sym q) ∙ f)

  -- a route touches no column that is come to sooner
  pub push_sooner : (d : E) (m v : ℕ) (hs : List Hop) (z : ℕ) (x : ℕ → ℕ → E) → Route G t s m v hs z
      → (a b k : ℕ) → k < m → met G t s k b ≡ true → push G d v hs z x a b ≡ x a b
  push_sooner d m v [] z x q a b k l e = bump_column G x v z d a b (λ p. true≢false (sym e ∙ ap (met G t s k) p ∙ q.onto.before k l))
  push_sooner d m v (h ∷ hs) z x q a b k l e =
      push_sooner d (suc m) h.to hs z (hopped d v h x) q.2 a b k (omega arith) e
      ∙ bump_column G (bump G x v h.over d) h.to h.over (neg d) a b other
      ∙ bump_column G x v h.over d a b other
    where
      other : b ≡ h.over → ⊥
      other p = true≢false (sym e ∙ ap (met G t s k) p ∙ q.0.onto.before k l)

  -- two tables that agree on the columns come to after round m serve a route that starts there alike
  cover_later : (d : E) (m k v : ℕ) (hs : List Hop) (z : ℕ) (x y : ℕ → ℕ → E) → k < m → Route G t s m v hs z
      → ((a b : ℕ) → met G t s k b ≡ false → y a b ≡ x a b) → Covered G x d hs → Covered G y d hs
  cover_later d m k v [] z x y l q same c = tt
  cover_later d m k v (h ∷ hs) z x y l q same c = (
    subst (Le G d) (sym (same h.to h.over (q.0.onto.before k l))) c.0,
    cover_later d (suc m) k h.to hs z x y (omega arith) q.2 same c.1,
  )

  meet_later : (d : E) (m k v : ℕ) (hs : List Hop) (z : ℕ) (x y : ℕ → ℕ → E) → k < m → Route G t s m v hs z
      → ((a b : ℕ) → met G t s k b ≡ false → y a b ≡ x a b) → Meets G x d hs → Meets G y d hs
  meet_later d m k v [] z x y l q same c = c
  meet_later d m k v (h ∷ hs) z x y l q same (inl c) = inl (c ∙ sym (same h.to h.over (q.0.onto.before k l)))
  meet_later d m k v (h ∷ hs) z x y l q same (inr c) = inr (meet_later d (suc m) k h.to hs z x y (omega arith) q.2 same c)

  -- pairs that are not permitted are not touched
  bump_off : (x : ℕ → ℕ → E) (v c : ℕ) (d : E) → t.permitted v c ≡ true → (a b : ℕ) → t.permitted a b ≡ false → bump G x v c d a b ≡ x a b
  bump_off x v c d p a b f = go (bump_cases G x v c d a b)
    where
      go : ((a ≡ v) × (b ≡ c) × (bump G x v c d a b ≡ x a b ⊕ d)) ⊎ (bump G x v c d a b ≡ x a b) → bump G x v c d a b ≡ x a b
      go (inl q) = absurd (true≢false (sym p ∙ ap₂ t.permitted (sym q.0) (sym q.1) ∙ f))
      go (inr q) = q

  pub push_off : (d : E) (m v : ℕ) (hs : List Hop) (z : ℕ) (x : ℕ → ℕ → E) → Route G t s m v hs z
      → ((a b : ℕ) → a < t.n → b < t.n → above G (s.x a b) ≡ true → t.permitted a b ≡ true)
      → (a b : ℕ) → t.permitted a b ≡ false → push G d v hs z x a b ≡ x a b
  push_off d m v [] z x q on a b f = bump_off x v z d q.allowed a b f
  push_off d m v (h ∷ hs) z x q on a b f =
      push_off d (suc m) h.to hs z (hopped d v h x) q.2 on a b f
      ∙ bump_off (bump G x v h.over d) h.to h.over (neg d)
      (on h.to h.over (inside_first G t.n h.to hs z (route_inside (suc m) h.to hs z q.2)) q.0.receiver q.1) a b f
      ∙ bump_off x v h.over d q.0.allowed a b f

  -- a pair that one change brings above zero is its forward link
  raised_one : (d : E) (m v i : ℕ) (x : ℕ → ℕ → E) → Link G t s m v i
      → (a b : ℕ) → above G (bump G x v i d a b) ≡ true → (above G (x a b) ≡ true) ⊎ ((k : ℕ) × Link G t s k a b)
  raised_one d m v i x link a b e = go (bump_cases G x v i d a b)
    where
      go : ((a ≡ v) × (b ≡ i) × (bump G x v i d a b ≡ x a b ⊕ d)) ⊎ (bump G x v i d a b ≡ x a b) → (above G (x a b) ≡ true) ⊎ ((k : ℕ) × Link G t s k a b)
      go (inl q) = inr (m, subst (λ y. Link G t s m y b) (sym q.0) (subst (λ y. Link G t s m v y) (sym q.1) link))
      go (inr q) = inl (ap (above G) (sym q) ∙ e)

module _ (G : Group) (L : Ordered G) (t : Task G.Element) (s : State G.Element) where
  open G use {Element as E, plus as ◌⊕◌, nil as o, neg}
  open L use {inverse, trans}

  infixl 65 ◌⊕◌
  -- amounts stay at least zero
  pub push_floor : (d : E) (m v : ℕ) (hs : List Hop) (z : ℕ) (x : ℕ → ℕ → E) → Le G o d → Route G t s m v hs z → Covered G x d hs
      → ((a b : ℕ) → a < t.n → b < t.n → Le G o (x a b)) → (a b : ℕ) → a < t.n → b < t.n → Le G o (push G d v hs z x a b)
  push_floor d m v [] z x p q c least a b la lb = bump_least G L x v z d a b p (least a b la lb)
  push_floor d m v (h ∷ hs) z x p q c least a b la lb =
      push_floor d (suc m) h.to hs z (hopped G t s d v h x) p q.2
      (cover_later G t s d (suc m) m h.to hs z x (hopped G t s d v h x) (omega arith) q.2 (hop_later G t s d v h x m q.0.onto.now) c.1)
      (λ i j li lj.
      bump_floor G L (bump G x v h.over d) h.to h.over d i j
      (trans d (x h.to h.over) (bump G x v h.over d h.to h.over) c.0 (bump_up G L x v h.over d h.to h.over p))
      (bump_least G L x v h.over d i j p (least i j li lj)))
      a b la lb

  pub on_permitted : Inv G t s → (a b : ℕ) → a < t.n → b < t.n → above G (s.x a b) ≡ true → t.permitted a b ≡ true
  on_permitted inv a b la lb p = go (t.permitted a b) refl
    where
      go : (c : Bool) → t.permitted a b ≡ c → t.permitted a b ≡ true
      go true e = e
      go false e = absurd (true≢false (sym p ∙ nil_not_above G L (s.x a b) (inv.x_off a b la lb e)))

  -- giving d along a route keeps the invariant
  pub give_inv : (d : E) (m v : ℕ) (hs : List Hop) (z : ℕ) → Inv G t s → Route G t s m v hs z
      → Le G o d → Le G d (s.g v) → Le G d (s.r z) → Covered G s.x d hs → Inv G t (give G d v hs z s)
  give_inv d m v hs z inv q p pg pr c =
      record {
        x_least = push_floor d m v hs z s.x p q c inv.x_least;
        x_off = λ j i lj li e. push_off G t s d m v hs z s.x q (on_permitted inv) j i e ∙ inv.x_off j i lj li e;
        g_least = λ j l. taken_floor G L s.g v d j pg (inv.g_least j l);
        r_least = λ i l. taken_floor G L s.r z d i pr (inv.r_least i l);
        rows = λ j l. ap (λ y. y ⊕ taken G s.g v d j) (row_push G L t.n d v hs z s.x j (route_inside G t s m v hs z q)) ∙ taken_there G L s.g v d (sum_below G t.n (λ i. s.x j i)) j ∙ inv.rows j l;
        columns = λ i l. ap (λ y. y ⊕ taken G s.r z d i) (column_push G L t.n d v hs z s.x i (route_inside G t s m v hs z q)) ∙ taken_there G L s.r z d (sum_below G t.n (λ j. s.x j i)) i ∙ inv.columns i l;
      }

  -- a pair that comes above zero is a forward link
  pub push_raised : (d : E) (m v : ℕ) (hs : List Hop) (z : ℕ) (x : ℕ → ℕ → E) → Le G o d → Route G t s m v hs z
      → (a b : ℕ) → above G (push G d v hs z x a b) ≡ true → (above G (x a b) ≡ true) ⊎ ((k : ℕ) × Link G t s k a b)
  push_raised d m v [] z x p q a b e = raised_one G t s d m v z x q a b e
  push_raised d m v (h ∷ hs) z x p q a b e = go (push_raised d (suc m) h.to hs z (hopped G t s d v h x) p q.2 a b e)
    where
      go : (above G (hopped G t s d v h x a b) ≡ true) ⊎ ((k : ℕ) × Link G t s k a b) → (above G (x a b) ≡ true) ⊎ ((k : ℕ) × Link G t s k a b)
      go (inl f) =
          raised_one G t s d m v h.over x q.0 a b
          (above_mono G L (hopped G t s d v h x a b) (bump G x v h.over d a b) (bump_down G L (bump G x v h.over d) h.to h.over d a b p) f)
      go (inr f) = inr f

  -- a pair that comes down to zero is a backward link
  pub push_lowered : (d : E) (m v : ℕ) (hs : List Hop) (z : ℕ) (x : ℕ → ℕ → E) → Le G o d → Route G t s m v hs z
      → (a b : ℕ) → above G (x a b) ≡ true → (above G (push G d v hs z x a b) ≡ true) ⊎ ((k : ℕ) × MetAt G t s k b × At G t s (suc k) a)
  push_lowered d m v [] z x p q a b e = inl (above_mono G L (x a b) (bump G x v z d a b) (bump_up G L x v z d a b p) e)
  push_lowered d m v (h ∷ hs) z x p q a b e =
      go (bump_cases G (bump G x v h.over d) h.to h.over (neg d) a b) (push_lowered d (suc m) h.to hs z (hopped G t s d v h x) p q.2 a b)
    where
      go : ((a ≡ h.to) × (b ≡ h.over) × (hopped G t s d v h x a b ≡ bump G x v h.over d a b ⊕ neg d)) ⊎ (hopped G t s d v h x a b ≡ bump G x v h.over d a b)
          → (above G (hopped G t s d v h x a b) ≡ true → (above G (push G d h.to hs z (hopped G t s d v h x) a b) ≡ true) ⊎ ((k : ℕ) × MetAt G t s k b × At G t s (suc k) a))
          → (above G (push G d h.to hs z (hopped G t s d v h x) a b) ≡ true) ⊎ ((k : ℕ) × MetAt G t s k b × At G t s (suc k) a)
      go (inl f) ih =
          inr (m, subst (MetAt G t s m) (sym f.1) q.0.onto, subst (At G t s (suc m)) (sym f.0) (route_first G t s (suc m) h.to hs z q.2))
      go (inr f) ih =
          ih (ap (above G) f ∙ above_mono G L (x a b) (bump G x v h.over d a b) (bump_up G L x v h.over d a b p) e)

  -- a backward link whose amount is d is emptied
  pub push_emptied : (d : E) (m v : ℕ) (hs : List Hop) (z : ℕ) (x : ℕ → ℕ → E) → Route G t s m v hs z → Meets G x d hs
      → (a b k : ℕ) × (a < t.n) × (b < t.n) × (above G (s.x a b) ≡ true) × (push G d v hs z x a b ≡ o) × MetAt G t s k b × At G t s (suc k) a
  push_emptied d m v [] z x q c = absurd c
  push_emptied d m v (h ∷ hs) z x q (inl c) =
      (h.to, h.over, m, inside_first G t.n h.to hs z (route_inside G t s (suc m) h.to hs z q.2), q.0.receiver, q.1, gone, q.0.onto, last)
    where
      last : At G t s (suc m) h.to
      last = route_first G t s (suc m) h.to hs z q.2

      apart : h.to ≡ v → ⊥
      apart p = true≢false (sym q.0.from.now ∙ ap (within G t s m) (sym p) ∙ last.before m (omega arith))

      gone : push G d v (h ∷ hs) z x h.to h.over ≡ o
      gone =
          push_sooner G t s d (suc m) h.to hs z (hopped G t s d v h x) q.2 h.to h.over m (omega arith) q.0.onto.now
          ∙ bump_here G (bump G x v h.over d) h.to h.over (neg d)
          ∙ ap (λ y. y ⊕ neg d) (bump_row G x v h.over d h.to h.over apart ∙ sym c)
          ∙ inverse d
  push_emptied d m v (h ∷ hs) z x q (inr c) =
      push_emptied d (suc m) h.to hs z (hopped G t s d v h x) q.2
      (meet_later G t s d (suc m) m h.to hs z x (hopped G t s d v h x) (omega arith) q.2 (hop_later G t s d v h x m q.0.onto.now) c)
