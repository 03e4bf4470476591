-- The potential falls with each step, so the steps are bounded.
use Rattle.std.proofs.Common.{◌≡◌, ℕ, zero, suc, pred, ◌+◌, ◌*◌, ◌<◌, ◌≤◌, Bool, true, false, cond, ◌&&◌, ◌⊎◌, List, [], ◌∷◌, sym, refl, ap, ◌∙◌, subst, inl, inr, true≢false, arith}
use Rattle.std.proofs.lemmas.Bool.{and_parts, and_from, and_right}
use Rattle.groups.specs.Group.{Group, Ordered}
use Rattle.groups.specs.Sums.{Le, above, lesser}
use Rattle.groups.proofs.Order.{unit_left, above_mono, above_nonneg, nil_not_above}
use Rattle.groups.proofs.Totals.{sum_nil}
use Rattle.flow.specs.Counts.{sum_n, bit, count}
use Rattle.flow.specs.Flow.{Task, State, Inv}
use Rattle.flow.specs.Levels.{within, met, At, MetAt, live, potential}
use Rattle.flow.specs.Routes.{Hop, push, least, amount, taken, augment, Link, Route}
use Rattle.flow.specs.Runs.{begin, Run, started, stepped, pairs, Bounded}
use Rattle.flow.proofs.Counting.{sum_n_le, sum_n_lt, count_le, count_lt, count_most}
use Rattle.flow.proofs.Rounds.{met_found, met_from, within_zero, within_found, within_later, within_from, link_order, back_order, early}
use Rattle.flow.proofs.Pushes.{Covered, Meets, taken_down, taken_all, lesser_left, lesser_right, lesser_one, lesser_pos, least_first, covered_below, least_covered, least_one}
use Rattle.flow.proofs.Steps.{give_inv, on_permitted, push_raised, push_lowered, push_emptied}

module _ (G : Group) (t : Task G.Element) (s s' : State G.Element) where
  -- a step that makes nothing sooner
  pub record Later : Type 0 where
    pub g_down : (v : ℕ) → v < t.n → above G (s'.g v) ≡ true → above G (s.g v) ≡ true
    pub r_down : (i : ℕ) → i < t.n → above G (s'.r i) ≡ true → above G (s.r i) ≡ true
    pub raised : (a b : ℕ) → a < t.n → b < t.n → above G (s'.x a b) ≡ true
        → (above G (s.x a b) ≡ true) ⊎ ((m : ℕ) → met G t s m b ≡ true → within G t s m a ≡ true)
    pub lowered : (a b : ℕ) → a < t.n → b < t.n → above G (s.x a b) ≡ true
        → (above G (s'.x a b) ≡ true) ⊎ ((m : ℕ) → within G t s m a ≡ true → met G t s m b ≡ true)

  -- and one that empties something
  pub data Emptied : Type 0 where
    of_g : (v : ℕ) → v < t.n → above G (s.g v) ≡ true → above G (s'.g v) ≡ false → Emptied
    of_r : (i : ℕ) → i < t.n → above G (s.r i) ≡ true → above G (s'.r i) ≡ false → Emptied
    of_x : (a b m : ℕ) → a < t.n → b < t.n → above G (s.x a b) ≡ true → above G (s'.x a b) ≡ false
        → MetAt G t s m b → At G t s (suc m) a → Emptied

  module _ (h : Later) where
    pub within_falls : (m v : ℕ) → v < t.n → within G t s' m v ≡ true → within G t s m v ≡ true
    within_falls zero v l e = within_zero G t s v ∙ h.g_down v l (sym (within_zero G t s' v) ∙ e)
    within_falls (suc m) v l e = go (within_found G t s' m v e) (within_falls m)
      where
        go : (within G t s' m v ≡ true) ⊎ ((i : ℕ) × (i < t.n) × (above G (s'.x v i) ≡ true) × (met G t s' m i ≡ true))
            → ((u : ℕ) → u < t.n → within G t s' m u ≡ true → within G t s m u ≡ true) → within G t s (suc m) v ≡ true
        go (inl q) ih = within_later G t s m v (ih v l q)
        go (inr q) ih =
            let f = met_found G t s' m q.0 q.3 in
            let e' : met G t s m q.0 ≡ true = met_from G t s m f.0 q.0 f.1 (ih f.0 f.1 f.2) f.3 in
            let fin : (above G (s.x v q.0) ≡ true) ⊎ ((k : ℕ) → met G t s k q.0 ≡ true → within G t s k v ≡ true) → within G t s (suc m) v ≡ true = elim [
              | inl p ↦ within_from G t s m v q.0 q.1 p e'
              | inr p ↦ within_later G t s m v (p m e')
            ] in
            fin (h.raised v q.0 l q.1 q.2)

    pub met_falls : (m i : ℕ) → met G t s' m i ≡ true → met G t s m i ≡ true
    met_falls m i e = let f = met_found G t s' m i e in met_from G t s m f.0 i f.1 (within_falls m f.0 f.1 f.2) f.3

    live_falls : (k i m : ℕ) → k < t.n → i < t.n → live G t s' k i m ≡ true → live G t s k i m ≡ true
    unfolding live
    live_falls k i m lk li e =
        let p = and_parts (t.permitted k i) (cond (above G (s'.x k i)) (met G t s' m i) (within G t s' m k)) e in
        and_from (t.permitted k i) (cond (above G (s.x k i)) (met G t s m i) (within G t s m k)) p.0
        (go (above G (s'.x k i)) (above G (s.x k i)) refl refl p.1)
      where
        go : (a b : Bool) → above G (s'.x k i) ≡ a → above G (s.x k i) ≡ b → cond a (met G t s' m i) (within G t s' m k) ≡ true → cond b (met G t s m i) (within G t s m k) ≡ true
        go true true p q e = met_falls m i e
        go false false p q e = within_falls m k lk e
        go true false p q e = up (h.raised k i lk li p)
          where
            up : (above G (s.x k i) ≡ true) ⊎ ((c : ℕ) → met G t s c i ≡ true → within G t s c k ≡ true) → within G t s m k ≡ true
            up (inl f) = absurd (true≢false (sym f ∙ q))
            up (inr f) = f m (met_falls m i e)
        go false true p q e = down (h.lowered k i lk li q)
          where
            down : (above G (s'.x k i) ≡ true) ⊎ ((c : ℕ) → within G t s c k ≡ true → met G t s c i ≡ true) → met G t s m i ≡ true
            down (inl f) = absurd (true≢false (sym f ∙ p))
            down (inr f) = f m (within_falls m k lk e)

    gs_fall : count t.n (λ j. above G (s'.g j)) ≤ count t.n (λ j. above G (s.g j))
    gs_fall = count_le t.n (λ j. above G (s'.g j)) (λ j. above G (s.g j)) h.g_down

    rs_fall : count t.n (λ j. above G (s'.r j)) ≤ count t.n (λ j. above G (s.r j))
    rs_fall = count_le t.n (λ j. above G (s'.r j)) (λ j. above G (s.r j)) h.r_down

    pair_falls : (k i : ℕ) → k < t.n → i < t.n → count (pred t.n) (λ m. live G t s' k i m) ≤ count (pred t.n) (λ m. live G t s k i m)
    pair_falls k i lk li = count_le (pred t.n) (λ m. live G t s' k i m) (λ m. live G t s k i m) (λ m lm e. live_falls k i m lk li e)

    row_falls : (k : ℕ) → k < t.n
        → sum_n t.n (λ i. count (pred t.n) (λ m. live G t s' k i m)) ≤ sum_n t.n (λ i. count (pred t.n) (λ m. live G t s k i m))
    row_falls k lk =
        sum_n_le t.n (λ i. count (pred t.n) (λ m. live G t s' k i m)) (λ i. count (pred t.n) (λ m. live G t s k i m))
        (λ i li. pair_falls k i lk li)

    xs_fall : sum_n t.n (λ k. sum_n t.n (λ i. count (pred t.n) (λ m. live G t s' k i m)))
        ≤ sum_n t.n (λ k. sum_n t.n (λ i. count (pred t.n) (λ m. live G t s k i m)))
    xs_fall =
        sum_n_le t.n (λ k. sum_n t.n (λ i. count (pred t.n) (λ m. live G t s' k i m)))
        (λ k. sum_n t.n (λ i. count (pred t.n) (λ m. live G t s k i m))) row_falls

module _ (G : Group) (L : Ordered G) (t : Task G.Element) (s s' : State G.Element) (h : Later G t s s') where
  -- the potential falls
  pub potential_falls : Inv G t s → Emptied G t s s' → potential G t s' < potential G t s
  unfolding potential live
  potential_falls inv (of_g v l p q) =
      omega (arith, count_lt t.n (λ j. above G (s'.g j)) (λ j. above G (s.g j)) v l h.g_down q p, rs_fall G t s s' h, xs_fall G t s s' h)
  potential_falls inv (of_r v l p q) =
      omega (arith, count_lt t.n (λ j. above G (s'.r j)) (λ j. above G (s.r j)) v l h.r_down q p, gs_fall G t s s' h, xs_fall G t s s' h)
  potential_falls inv (of_x a b m la lb p q on at) =
      let soon : suc m < t.n = early G t s (suc m) a la at in
      let was : live G t s a b m ≡ true =
      and_from (t.permitted a b) (cond (above G (s.x a b)) (met G t s m b) (within G t s m a)) (on_permitted G L t s inv a b la lb p)
      (subst (λ z. cond z (met G t s m b) (within G t s m a) ≡ true) (sym p) on.now) in
      let not_within : (c : Bool) → within G t s' m a ≡ c → within G t s' m a ≡ false = elim [
        | true ↦ λ e. absurd (true≢false (sym (within_falls G t s s' h m a la e) ∙ at.before m (omega arith)))
        | false ↦ λ e. e
      ] in
      let is : live G t s' a b m ≡ false =
      and_right (t.permitted a b) (cond (above G (s'.x a b)) (met G t s' m b) (within G t s' m a))
      (subst (λ z. cond z (met G t s' m b) (within G t s' m a) ≡ false) (sym q) (not_within (within G t s' m a) refl)) in
      let one = count_lt (pred t.n) (λ k. live G t s' a b k) (λ k. live G t s a b k) m (omega arith) (λ k lk e. live_falls G t s s' h a b k la lb e) is was in
      let row =
      sum_n_lt t.n (λ i. count (pred t.n) (λ k. live G t s' a i k)) (λ i. count (pred t.n) (λ k. live G t s a i k)) b lb
      (λ i li. pair_falls G t s s' h a i la li) one in
      let all =
      sum_n_lt t.n (λ k. sum_n t.n (λ i. count (pred t.n) (λ c. live G t s' k i c)))
      (λ k. sum_n t.n (λ i. count (pred t.n) (λ c. live G t s k i c))) a la (row_falls G t s s' h) row in
      omega (arith, gs_fall G t s s' h, rs_fall G t s s' h, all)

module _ (G : Group) (L : Ordered G) (t : Task G.Element) (s : State G.Element) (v : ℕ) (hs : List Hop) (z : ℕ) (inv : Inv G t s) (q : Route G t s 0 v hs z) (pr : above G (s.r z) ≡ true) where
  route_start : (m u : ℕ) (ks : List Hop) → Route G t s m u ks z → (u < t.n) × (z < t.n) × (within G t s m u ≡ true)
  route_start m u [] k = (k.giver, k.receiver, k.from.now)
  route_start m u (h ∷ ks) k = (k.0.giver, (route_start (suc m) h.to ks k.2).1, k.0.from.now)

  pg : above G (s.g v) ≡ true
  pg = sym (within_zero G t s v) ∙ (route_start 0 v hs q).2

  least_pos : (m u : ℕ) (ks : List Hop) (a : G.Element) → Route G t s m u ks z → above G a ≡ true → above G (least G s.x a ks) ≡ true
  least_pos m u [] a k p = p
  least_pos m u (h ∷ ks) a k p = lesser_pos G (s.x h.to h.over) (least G s.x a ks) k.1 (least_pos (suc m) h.to ks a k.2 p)

  pub amount_pos : above G (amount G s v hs z) ≡ true
  unfolding amount
  amount_pos = lesser_pos G (s.g v) (least G s.x (s.r z) hs) pg (least_pos 0 v hs (s.r z) q pr)

  amount_g : Le G (amount G s v hs z) (s.g v)
  unfolding amount
  amount_g = lesser_left G L (s.g v) (least G s.x (s.r z) hs)

  amount_least : Le G (amount G s v hs z) (least G s.x (s.r z) hs)
  unfolding amount
  amount_least = lesser_right G L (s.g v) (least G s.x (s.r z) hs)

  amount_r : Le G (amount G s v hs z) (s.r z)
  amount_r = L.trans (amount G s v hs z) (least G s.x (s.r z) hs) (s.r z) amount_least (least_first G L s.x (s.r z) hs)

  amount_covered : Covered G s.x (amount G s v hs z) hs
  amount_covered = covered_below G L s.x (amount G s v hs z) (least G s.x (s.r z) hs) hs amount_least (least_covered G L s.x (s.r z) hs)

  amount_one : (amount G s v hs z ≡ s.g v) ⊎ ((amount G s v hs z ≡ s.r z) ⊎ Meets G s.x (amount G s v hs z) hs)
  unfolding amount
  amount_one = go (lesser_one G (s.g v) (least G s.x (s.r z) hs)) (least_one G s.x (s.r z) hs)
    where
      d : G.Element
      d = lesser G (s.g v) (least G s.x (s.r z) hs)

      go : (d ≡ s.g v) ⊎ (d ≡ least G s.x (s.r z) hs) → (least G s.x (s.r z) hs ≡ s.r z) ⊎ Meets G s.x (least G s.x (s.r z) hs) hs
          → (d ≡ s.g v) ⊎ ((d ≡ s.r z) ⊎ Meets G s.x d hs)
      go (inl a) b = inl a
      go (inr a) (inl b) = inr (inl (a ∙ b))
      go (inr a) (inr b) = inr (inr (subst (λ y. Meets G s.x y hs) (sym a) b))

  pub augment_inv : Inv G t (augment G v hs z s)
  augment_inv = give_inv G L t s (amount G s v hs z) 0 v hs z inv q (above_nonneg G L (amount G s v hs z) amount_pos) amount_g amount_r amount_covered

  augment_later : Later G t s (augment G v hs z s)
  augment_later =
      let d = amount G s v hs z in
      let nn = above_nonneg G L d amount_pos in
      record {
        g_down = λ j l e. above_mono G L (taken G s.g v d j) (s.g j) (taken_down G L s.g v d j nn) e;
        r_down = λ j l e. above_mono G L (taken G s.r z d j) (s.r j) (taken_down G L s.r z d j nn) e;
        raised = λ a b la lb e. up a b (push_raised G L t s d 0 v hs z s.x nn q a b e);
        lowered = λ a b la lb e. down a b (push_lowered G L t s d 0 v hs z s.x nn q a b e);
      }
    where
      up : (a b : ℕ) → (above G (s.x a b) ≡ true) ⊎ ((k : ℕ) × Link G t s k a b) → (above G (s.x a b) ≡ true) ⊎ ((m : ℕ) → met G t s m b ≡ true → within G t s m a ≡ true)
      up a b (inl e) = inl e
      up a b (inr e) = inr (link_order G t s e.0 a b e.1)

      down : (a b : ℕ) → (above G (push G (amount G s v hs z) v hs z s.x a b) ≡ true) ⊎ ((k : ℕ) × MetAt G t s k b × At G t s (suc k) a)
          → (above G (push G (amount G s v hs z) v hs z s.x a b) ≡ true) ⊎ ((m : ℕ) → within G t s m a ≡ true → met G t s m b ≡ true)
      down a b (inl e) = inl e
      down a b (inr e) = inr (back_order G t s e.0 a b e.1 e.2)

  augment_empties : Emptied G t s (augment G v hs z s)
  augment_empties = go amount_one
    where
      go : (amount G s v hs z ≡ s.g v) ⊎ ((amount G s v hs z ≡ s.r z) ⊎ Meets G s.x (amount G s v hs z) hs) → Emptied G t s (augment G v hs z s)
      go (inl e) = of_g v (route_start 0 v hs q).0 pg (nil_not_above G L (taken G s.g v (amount G s v hs z) v) (taken_all G L s.g v (amount G s v hs z) e))
      go (inr (inl e)) = of_r z (route_start 0 v hs q).1 pr (nil_not_above G L (taken G s.r z (amount G s v hs z) z) (taken_all G L s.r z (amount G s v hs z) e))
      go (inr (inr e)) =
          let f = push_emptied G L t s (amount G s v hs z) 0 v hs z s.x q e in
          of_x f.0 f.1 f.2 f.3 f.4 f.5 (nil_not_above G L (push G (amount G s v hs z) v hs z s.x f.0 f.1) f.6) f.7 f.8

  pub augment_falls : potential G t (augment G v hs z s) < potential G t s
  augment_falls = potential_falls G L t s (augment G v hs z s) augment_later inv augment_empties

-- how far the potential can stand
module _ (G : Group) (t : Task G.Element) where
  row_most : (p : ℕ) (k n : ℕ) (f : ℕ → ℕ) → ((i : ℕ) → f i ≤ bit (t.permitted k i) * p) → sum_n n f ≤ sum_n n (λ i. bit (t.permitted k i)) * p
  unfolding sum_n
  row_most p k zero f h = omega arith
  row_most p k (suc n) f h = omega (arith, row_most p k n f h, h n)

  all_most : (p m n : ℕ) (f : ℕ → ℕ) → ((k : ℕ) → f k ≤ sum_n m (λ i. bit (t.permitted k i)) * p) → sum_n n f ≤ sum_n n (λ k. sum_n m (λ i. bit (t.permitted k i))) * p
  unfolding sum_n
  all_most p m zero f h = omega arith
  all_most p m (suc n) f h = omega (arith, all_most p m n f h, h n)

  live_most : (s : State G.Element) (k i : ℕ) → count (pred t.n) (λ m. live G t s k i m) ≤ bit (t.permitted k i) * pred t.n
  unfolding live sum_n
  live_most s k i = go (t.permitted k i)
    where
      none : (p : ℕ) → count p (λ m. false) ≤ 0
      none zero = omega arith
      none (suc p) = omega (arith, none p)

      go : (b : Bool) → count (pred t.n) (λ m. b && cond (above G (s.x k i)) (met G t s m i) (within G t s m k)) ≤ bit b * pred t.n
      go true = omega (arith, count_most (pred t.n) (λ m. cond (above G (s.x k i)) (met G t s m i) (within G t s m k)))
      go false = omega (arith, none (pred t.n))

  pub potential_most : (s : State G.Element) → potential G t s ≤ t.n + t.n + pairs t * pred t.n
  unfolding potential
  potential_most s =
      omega (
        arith,
        count_most t.n (λ j. above G (s.g j)),
        count_most t.n (λ j. above G (s.r j)),
        all_most (pred t.n) t.n t.n (λ k. sum_n t.n (λ i. count (pred t.n) (λ m. live G t s k i m)))
            (λ k. row_most (pred t.n) k t.n (λ i. count (pred t.n) (λ m. live G t s k i m)) (λ i. live_most s k i)),
      )

-- the start, and all that follows it
module _ (G : Group) (L : Ordered G) (t : Task G.Element) where
  pub begin_inv : ((j : ℕ) → j < t.n → Le G G.nil (t.w j)) → Inv G t (begin G t)
  begin_inv h =
      record {
        x_least = λ j i lj li. L.reflexive G.nil;
        x_off = λ j i lj li e. refl;
        g_least = h;
        r_least = h;
        rows = λ j l. ap (λ z. G.plus z (t.w j)) (sum_nil G L t.n (λ i. G.nil) (λ k m. refl)) ∙ unit_left G L (t.w j);
        columns = λ i l. ap (λ z. G.plus z (t.w i)) (sum_nil G L t.n (λ j. G.nil) (λ k m. refl)) ∙ unit_left G L (t.w i);
      }

  run_falls : ((j : ℕ) → j < t.n → Le G G.nil (t.w j)) → {k : ℕ} {s : State G.Element} → Run G t k s
      → Inv G t s × (k + potential G t s ≤ potential G t (begin G t))
  run_falls h started = (begin_inv h, omega arith)
  run_falls h (stepped {k} {s} v hs z run q pr) =
      let ih = run_falls h run in
      (augment_inv G L t s v hs z ih.0 q pr, omega (arith, ih.1, augment_falls G L t s v hs z ih.0 q pr))

pub bounded : (G : Group) → Ordered G → Bounded G
bounded G L t h k s run = let f = run_falls G L t h run in (f.0, omega (arith, f.1, potential_most G t (begin G t)))
