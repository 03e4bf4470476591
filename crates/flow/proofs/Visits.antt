-- What the search keeps while a giver comes to its receivers, and a receiver leads back to givers.
use Rattle.std.proofs.Common.{◌≡◌, ℕ, zero, suc, ◌+◌, ◌<◌, ◌≤◌, Bool, true, false, cond, not, ◌&&◌, eqb, ◌⊎◌, List, [], ◌∷◌, ◌++◌, length, sym, refl, ap, ◌∙◌, subst, inl, inr, true≢false, append_assoc, arith, length-append}
use Rattle.std.proofs.lemmas.Bool.{and_parts, and_cases, cases_eq, eq-eqb, ne_eqb, cond-true, cond-false, not-true, not-false}
use Rattle.words.specs.Sweep.{sweep}
use Rattle.groups.specs.Group.{Group}
use Rattle.groups.specs.Sums.{above}
use Rattle.flow.specs.Counts.{count}
use Rattle.flow.specs.Flow.{Task, State}
use Rattle.flow.specs.Levels.{within, met, At, MetAt}
use Rattle.flow.specs.Routes.{Link}
use Rattle.flow.specs.Search.{Tests, Ends, searching, found, Search, mark, joined, noted, ended, going, back_test, backs, out_test, outs}
use Rattle.flow.specs.Told.{told}
use Rattle.flow.proofs.Counting.{count_lt}
use Rattle.flow.proofs.Rounds.{met_found, met_from, within_from, within_up, at_least}

-- all in the list have the property
abbrev pub Each : (ℕ → Type 0) → List ℕ → Type 0
Each P [] = Unit {0}
Each P (a ∷ l) = P a × Each P l

-- v is in the list
abbrev pub In : ℕ → List ℕ → Type 0
In v [] = ⊥
In v (a ∷ l) = (v ≡ a) ⊎ In v l

pub each_in : (P : ℕ → Type 0) (l : List ℕ) (v : ℕ) → Each P l → In v l → P v
each_in P [] v e i = absurd i
each_in P (a ∷ l) v e (inl q) = subst P (sym q) e.0
each_in P (a ∷ l) v e (inr q) = each_in P l v e.1 q

pub each_push : (P : ℕ → Type 0) (l : List ℕ) (a : ℕ) → Each P l → P a → Each P (l ++ (a ∷ []))
each_push P [] a e p = (p, tt)
each_push P (b ∷ l) a e p = (e.0, each_push P l a e.1 p)

pub in_left : (v : ℕ) (l m : List ℕ) → In v l → In v (l ++ m)
in_left v [] m i = absurd i
in_left v (a ∷ l) m (inl q) = inl q
in_left v (a ∷ l) m (inr q) = inr (in_left v l m q)

pub in_last : (v a : ℕ) (l : List ℕ) → v ≡ a → In v (l ++ (a ∷ []))
in_last v a [] q = inl q
in_last v a (b ∷ l) q = inr (in_last v a l q)

-- what marking one place does
mark_here : {A : Type 0} (f : ℕ → A) (k : ℕ) (a : A) (j : ℕ) → j ≡ k → mark f k a j ≡ a
unfolding mark
mark_here f k a j q = cond-true (eqb j k) a (f j) (eq-eqb j k q)

mark_else : {A : Type 0} (f : ℕ → A) (k : ℕ) (a : A) (j : ℕ) → (j ≡ k → ⊥) → mark f k a j ≡ f j
unfolding mark
mark_else f k a j q = cond-false (eqb j k) a (f j) (ne_eqb j k q)

mark_up : (f : ℕ → Bool) (k j : ℕ) → f j ≡ true → mark f k true j ≡ true
mark_up f k j e = go (cases_eq j k)
  where
    go : (j ≡ k) ⊎ (j ≡ k → ⊥) → mark f k true j ≡ true
    go (inl q) = mark_here f k true j q
    go (inr q) = mark_else f k true j q ∙ e

mark_down : (f : ℕ → Bool) (k j : ℕ) → mark f k true j ≡ true → (j ≡ k) ⊎ ((j ≡ k → ⊥) × (f j ≡ true))
mark_down f k j e = go (cases_eq j k)
  where
    go : (j ≡ k) ⊎ (j ≡ k → ⊥) → (j ≡ k) ⊎ ((j ≡ k → ⊥) × (f j ≡ true))
    go (inl q) = inl q
    go (inr q) = inr (q, sym (mark_else f k true j q) ∙ e)

-- a test does not both hold and fail
pub clash : {A : Type 0} (b : Bool) → b ≡ true → b ≡ false → A
clash b p q = absurd (true≢false (sym p ∙ q))

module _ (G : Group) (t : Task G.Element) (s : State G.Element) where
  -- the tests that the state poses
  abbrev posed : Tests
  posed = told G t s

  -- a giver first come to in round m
  abbrev pub Level : ℕ → ℕ → Type 0
  Level m v = (v < t.n) × At G t s m v

  -- giver k was reached from a seen receiver, of round m
  pub record Reached (q : Search) (k m : ℕ) : Type 0 where
    pub inside : q.via k < t.n
    pub seen : q.seen (q.via k) ≡ true
    pub above : above G (s.x k (q.via k)) ≡ true
    pub onto : MetAt G t s m (q.via k)
    pub level : At G t s (suc m) k

  -- every reached giver has something to give or was reached from a seen receiver, and that was seen from a reached giver
  pub record Tree (q : Search) : Type 0 where
    pub giver : (k : ℕ) → k < t.n → q.reached k ≡ true → (above G (s.g k) ≡ true) ⊎ ((m : ℕ) × Reached q k m)
    pub receiver : (i : ℕ) → i < t.n → q.seen i ≡ true → (m : ℕ) × Link G t s m (q.from i) i × (q.reached (q.from i) ≡ true)

  -- all to whom giver v may give are seen
  abbrev pub Done : Search → ℕ → Type 0
  Done q v = (i : ℕ) → i < t.n → t.permitted v i ≡ true → q.seen i ≡ true

  -- receiver i wants nothing, and all who can take back from it are reached
  pub record Swept (q : Search) (i : ℕ) : Type 0 where
    pub full : above G (s.r i) ≡ false
    pub backed : (k : ℕ) → k < t.n → above G (s.x k i) ≡ true → q.reached k ≡ true

  -- when c turns have begun: the queue is A, of round m, and then B, of the next; those of X need not be done, and those of Y not swept
  pub record Mid (c m : ℕ) (A B : List ℕ) (X Y : ℕ → Type 0) (q : Search) : Type 0 where
    pub open' : q.ends ≡ searching
    pub tree : Tree q
    pub queue : q.pending ≡ A ++ B
    pub now : Each (Level m) A
    pub next : Each (Level (suc m)) B
    pub all : (v : ℕ) → v < t.n → within G t s m v ≡ true → q.reached v ≡ true
    pub done : (v : ℕ) → v < t.n → q.reached v ≡ true → X v ⊎ (In v A ⊎ (In v B ⊎ Done q v))
    pub swept : (i : ℕ) → i < t.n → q.seen i ≡ true → Y i ⊎ Swept q i
    pub tally : c + length q.pending ≤ count t.n q.reached

  -- neither the queue nor the end matters to the tree
  pub same_tree : (q : Search) (ps : List ℕ) (e : Ends) → Tree q
      → Tree (record { pending = ps; reached = q.reached; seen = q.seen; from = q.from; via = q.via; ends = e })
  same_tree q ps e tree = record { giver = λ k l r. go k (tree.giver k l r); receiver = tree.receiver }
    where
      go : (k : ℕ) → (above G (s.g k) ≡ true) ⊎ ((m : ℕ) × Reached q k m)
          → (above G (s.g k) ≡ true) ⊎ ((m : ℕ) × Reached (record { pending = ps; reached = q.reached; seen = q.seen; from = q.from; via = q.via; ends = e }) k m)
      go k (inl f) = inl f
      go k (inr f) = inr (f.0, record { inside = f.1.inside; seen = f.1.seen; above = f.1.above; onto = f.1.onto; level = f.1.level })

  -- an exception that is done or swept is none
  pub settle : (c m : ℕ) (A B : List ℕ) (X Y X' Y' : ℕ → Type 0) (q : Search) → ((v : ℕ) → X v → X' v ⊎ Done q v) → ((i : ℕ) → Y i → Y' i ⊎ Swept q i)
      → Mid c m A B X Y q → Mid c m A B X' Y' q
  settle c m A B X Y X' Y' q x y h =
      record {
        open' = h.open';
        tree = h.tree;
        queue = h.queue;
        now = h.now;
        next = h.next;
        all = h.all;
        done = λ v l e. done v (h.done v l e);
        swept = λ i l e. swept i (h.swept i l e);
        tally = h.tally;
      }
    where
      done : (v : ℕ) → X v ⊎ (In v A ⊎ (In v B ⊎ Done q v)) → X' v ⊎ (In v A ⊎ (In v B ⊎ Done q v))
      done v (inl f) = elim (x v f) [ inl a ↦ inl a | inr a ↦ inr (inr (inr a)) ]
      done v (inr f) = inr f

      swept : (i : ℕ) → Y i ⊎ Swept q i → Y' i ⊎ Swept q i
      swept i (inl f) = y i f
      swept i (inr f) = inr f

  -- what is reached and seen in q is so in p
  pub record Up (q p : Search) : Type 0 where
    pub reached : (v : ℕ) → q.reached v ≡ true → p.reached v ≡ true
    pub seen : (i : ℕ) → q.seen i ≡ true → p.seen i ≡ true

  up_refl : (q : Search) → Up q q
  up_refl q = record { reached = λ v e. e; seen = λ i e. e }

  -- one more giver joins the queue
  join : (c m : ℕ) (A B : List ℕ) (X Y : ℕ → Type 0) (q : Search) (i k : ℕ) → k < t.n → i < t.n → MetAt G t s m i → q.seen i ≡ true
      → Mid c m A B X Y q → above G (s.x k i) ≡ true → q.reached k ≡ false → Mid c m A (B ++ (k ∷ [])) X Y (joined i k q)
  join c m A B X Y q i k lk li on si h p new =
      record {
        open' = h.open';
        tree = record { giver = giver; receiver = receiver };
        queue = ap (λ l. l ++ (k ∷ [])) h.queue ∙ append_assoc A B (k ∷ []);
        now = h.now;
        next = each_push (Level (suc m)) B k h.next (lk, level);
        all = λ v l e. mark_up q.reached k v (h.all v l e);
        done = λ v l e. done v l (mark_down q.reached k v e);
        swept = λ j l e. still j (h.swept j l e);
        tally = tally;
      }
    where
      level : At G t s (suc m) k
      level = record { now = within_from G t s m k i li p on.now; before = λ a la. first a la (within G t s a k) refl }
        where
          first : (a : ℕ) → a < suc m → (b : Bool) → within G t s a k ≡ b → within G t s a k ≡ false
          first a la true e = clash (q.reached k) (h.all k lk (within_up G t s a m k (omega arith) e)) new
          first a la false e = e

      giver : (v : ℕ) → v < t.n → mark q.reached k true v ≡ true → (above G (s.g v) ≡ true) ⊎ ((a : ℕ) × Reached (joined i k q) v a)
      giver v l e = go (mark_down q.reached k v e)
        where
          here : Reached (joined i k q) k m
          here =
              let w : i ≡ mark q.via k i k = sym (mark_here q.via k i k refl) in
              record {
                inside = subst (λ z. z < t.n) w li;
                seen = subst (λ z. q.seen z ≡ true) w si;
                above = subst (λ z. above G (s.x k z) ≡ true) w p;
                onto = subst (MetAt G t s m) w on;
                level = level;
              }

          keepit : (v ≡ k → ⊥) → (a : ℕ) → Reached q v a → Reached (joined i k q) v a
          keepit ne a f =
              let w : q.via v ≡ mark q.via k i v = sym (mark_else q.via k i v ne) in
              record {
                inside = subst (λ z. z < t.n) w f.inside;
                seen = subst (λ z. q.seen z ≡ true) w f.seen;
                above = subst (λ z. above G (s.x v z) ≡ true) w f.above;
                onto = subst (MetAt G t s a) w f.onto;
                level = f.level;
              }

          old : (v ≡ k → ⊥) → (above G (s.g v) ≡ true) ⊎ ((a : ℕ) × Reached q v a) → (above G (s.g v) ≡ true) ⊎ ((a : ℕ) × Reached (joined i k q) v a)
          old ne (inl f) = inl f
          old ne (inr f) = inr (f.0, keepit ne f.0 f.1)

          go : (v ≡ k) ⊎ ((v ≡ k → ⊥) × (q.reached v ≡ true)) → (above G (s.g v) ≡ true) ⊎ ((a : ℕ) × Reached (joined i k q) v a)
          go (inl w) = inr (m, subst (λ z. Reached (joined i k q) z m) (sym w) here)
          go (inr w) = old w.0 (h.tree.giver v l w.1)

      receiver : (j : ℕ) → j < t.n → q.seen j ≡ true → (a : ℕ) × Link G t s a (q.from j) j × (mark q.reached k true (q.from j) ≡ true)
      receiver j l e = let f = h.tree.receiver j l e in (f.0, f.1, mark_up q.reached k (q.from j) f.2)

      done : (v : ℕ) → v < t.n → (v ≡ k) ⊎ ((v ≡ k → ⊥) × (q.reached v ≡ true)) → X v ⊎ (In v A ⊎ (In v (B ++ (k ∷ [])) ⊎ Done (joined i k q) v))
      done v l (inl w) = inr (inr (inl (in_last v k B w)))
      done v l (inr w) = old (h.done v l w.1)
        where
          old : X v ⊎ (In v A ⊎ (In v B ⊎ Done q v)) → X v ⊎ (In v A ⊎ (In v (B ++ (k ∷ [])) ⊎ Done (joined i k q) v))
          old (inl f) = inl f
          old (inr (inl f)) = inr (inl f)
          old (inr (inr (inl f))) = inr (inr (inl (in_left v B (k ∷ []) f)))
          old (inr (inr (inr f))) = inr (inr (inr f))

      still : (j : ℕ) → Y j ⊎ Swept q j → Y j ⊎ Swept (joined i k q) j
      still j (inl f) = inl f
      still j (inr f) = inr (record { full = f.full; backed = λ v l e. mark_up q.reached k v (f.backed v l e) })

      tally : c + length (q.pending ++ (k ∷ [])) ≤ count t.n (mark q.reached k true)
      tally =
          let more = count_lt t.n q.reached (mark q.reached k true) k lk (λ v l e. mark_up q.reached k v e) new (mark_here q.reached k true k refl) in
          omega (arith, more, length-append q.pending (k ∷ []), h.tally)

  -- what holds when the givers below b who can take back from receiver i are reached
  abbrev Backed : ℕ → ℕ → List ℕ → (ℕ → Type 0) → (ℕ → Type 0) → Search → ℕ → ℕ → Search → Type 0
  Backed c m A X Y q i b p =
      (C : List ℕ) × Mid c m A C X Y p × Up q p × ((k : ℕ) → k < b → above G (s.x k i) ≡ true → p.reached k ≡ true)

  -- the givers below b who can take back from receiver i are reached from it
  sweep_below : (c m : ℕ) (A B : List ℕ) (X Y : ℕ → Type 0) (q : Search) (i : ℕ) → i < t.n → MetAt G t s m i → q.seen i ≡ true → Mid c m A B X Y q
      → (b : ℕ) → b ≤ t.n → Backed c m A X Y q i b (backs posed i b q)
  unfolding sweep
  sweep_below c m A B X Y q i li on si h zero l = (B, h, up_refl q, λ k lk e. absurd (omega arith))
  sweep_below c m A B X Y q i li on si h (suc b) l = step (sweep_below c m A B X Y q i li on si h b (omega arith))
    where
      p : Search
      p = backs posed i b q

      step : Backed c m A X Y q i b p → Backed c m A X Y q i (suc b) (backs posed i (suc b) q)
      step f = go (back_test posed i b p) refl
        where
          go : (e : Bool) → back_test posed i b p ≡ e → Backed c m A X Y q i (suc b) (cond e (joined i b p) p)
          go true e =
              let w = and_parts (above G (s.x b i)) (not (p.reached b)) e in (
                f.0 ++ (b ∷ []),
                join c m A f.0 X Y p i b (omega arith) li on (f.2.seen i si) f.1 w.0 (not-true (p.reached b) w.1),
                record { reached = λ v g. mark_up p.reached b v (f.2.reached v g); seen = f.2.seen },
                λ k lk g. more k (cases_eq k b) lk g,
              )
            where
              more : (k : ℕ) → (k ≡ b) ⊎ (k ≡ b → ⊥) → k < suc b → above G (s.x k i) ≡ true → mark p.reached b true k ≡ true
              more k (inl w) lk g = mark_here p.reached b true k w
              more k (inr w) lk g = mark_up p.reached b k (f.3 k (omega arith) g)
          go false e = (f.0, f.1, f.2, λ k lk g. more k (cases_eq k b) lk g (and_cases (above G (s.x b i)) (not (p.reached b)) e))
            where
              more : (k : ℕ) → (k ≡ b) ⊎ (k ≡ b → ⊥) → k < suc b → above G (s.x k i) ≡ true
                  → (above G (s.x b i) ≡ false) ⊎ (not (p.reached b) ≡ false) → p.reached k ≡ true
              more k (inl w) lk g (inl u) = clash (above G (s.x k i)) g (ap (λ z. above G (s.x z i)) w ∙ u)
              more k (inl w) lk g (inr u) = ap p.reached w ∙ not-false (p.reached b) u
              more k (inr w) lk g u = f.3 k (omega arith) g

  -- the search has ended at a receiver with something to get
  pub record Ended (z : ℕ) (q : Search) : Type 0 where
    pub at' : q.ends ≡ found z
    pub inside : z < t.n
    pub seen : q.seen z ≡ true
    pub wants : above G (s.r z) ≡ true
    pub tree : Tree q

  -- one more receiver is seen
  note_tree : (m : ℕ) (q : Search) (j i : ℕ) → Link G t s m j i → q.reached j ≡ true → Tree q → Tree (noted j i q)
  note_tree m q j i link rj tree = record { giver = giver; receiver = receiver }
    where
      giver : (k : ℕ) → k < t.n → q.reached k ≡ true → (above G (s.g k) ≡ true) ⊎ ((a : ℕ) × Reached (noted j i q) k a)
      giver k l e = go (tree.giver k l e)
        where
          go : (above G (s.g k) ≡ true) ⊎ ((a : ℕ) × Reached q k a) → (above G (s.g k) ≡ true) ⊎ ((a : ℕ) × Reached (noted j i q) k a)
          go (inl f) = inl f
          go (inr f) =
              inr (f.0, record { inside = f.1.inside; seen = mark_up q.seen i (q.via k) f.1.seen; above = f.1.above; onto = f.1.onto; level = f.1.level })

      receiver : (b : ℕ) → b < t.n → mark q.seen i true b ≡ true → (a : ℕ) × Link G t s a (mark q.from i j b) b × (q.reached (mark q.from i j b) ≡ true)
      receiver b l e = go (mark_down q.seen i b e)
        where
          go : (b ≡ i) ⊎ ((b ≡ i → ⊥) × (q.seen b ≡ true)) → (a : ℕ) × Link G t s a (mark q.from i j b) b × (q.reached (mark q.from i j b) ≡ true)
          go (inl w) =
              let u : j ≡ mark q.from i j b = sym (mark_here q.from i j b w) in
              (m, subst (λ y. Link G t s m y b) u (subst (λ y. Link G t s m j y) (sym w) link), subst (λ y. q.reached y ≡ true) u rj)
          go (inr w) =
              let f = tree.receiver b l w.1 in
              let u : q.from b ≡ mark q.from i j b = sym (mark_else q.from i j b w.0) in
              (f.0, subst (λ y. Link G t s f.0 y b) u f.1, subst (λ y. q.reached y ≡ true) u f.2)

  -- a receiver to whom a giver of the round may give, and not yet seen, is first met in the round
  first_met : (c m : ℕ) (A B : List ℕ) (Y : ℕ → Type 0) (q : Search) (j i : ℕ) → Level m j → i < t.n → t.permitted j i ≡ true
      → Mid c m A B (λ v. v ≡ j) Y q → q.seen i ≡ false → MetAt G t s m i
  first_met c m A B Y q j i lj li p h new =
      record { now = met_from G t s m j i lj.0 lj.1.now p; before = λ k lk. first k lk (met G t s k i) refl }
    where
      never : (k u a : ℕ) → k < a → At G t s a u → within G t s k u ≡ true → ⊥
      never k u a l f e = let le : a ≤ k = at_least G t s a k u f e in omega arith

      first : (k : ℕ) → k < m → (b : Bool) → met G t s k i ≡ b → met G t s k i ≡ false
      first k lk false e = e
      first k lk true e = absurd (go (h.done f.0 f.1 (h.all f.0 f.1 (within_up G t s k m f.0 (omega arith) f.2))))
        where
          f : (u : ℕ) × (u < t.n) × (within G t s k u ≡ true) × (t.permitted u i ≡ true)
          f = met_found G t s k i e

          go : (f.0 ≡ j) ⊎ (In f.0 A ⊎ (In f.0 B ⊎ Done q f.0)) → ⊥
          go (inl w) = never k f.0 m lk (subst (At G t s m) (sym w) lj.1) f.2
          go (inr (inl w)) = never k f.0 m lk (each_in (Level m) A f.0 h.now w).1 f.2
          go (inr (inr (inl w))) = never k f.0 (suc m) (omega arith) (each_in (Level (suc m)) B f.0 h.next w).1 f.2
          go (inr (inr (inr w))) = clash (q.seen i) (w i li f.3) new

  -- what holds when giver j has come to the receivers below b
  abbrev pub Scanned : ℕ → ℕ → List ℕ → ℕ → ℕ → Search → Type 0
  Scanned c m A j b q =
      (C : List ℕ) × Mid c m A C (λ v. v ≡ j) (λ i. ⊥) q × (q.reached j ≡ true) × ((i : ℕ) → i < b → t.permitted j i ≡ true → q.seen i ≡ true)

  -- giver j comes to receiver i: where i is new, the search ends there or goes back from it
  abbrev came : Bool → Bool → ℕ → ℕ → Search → Search
  came new wants j i q = cond new (cond wants (ended i (noted j i q)) (backs posed i t.n (noted j i q))) q

  -- giver j comes to one more receiver
  scan_one : (c m : ℕ) (A : List ℕ) (j i : ℕ) (q : Search) → Level m j → i < t.n → Scanned c m A j i q
      → Scanned c m A j (suc i) (came (out_test posed j i q) (above G (s.r i)) j i q)
      ⊎ ((z : ℕ) × Ended z (came (out_test posed j i q) (above G (s.r i)) j i q))
  scan_one c m A j i q lj li f = go (out_test posed j i q) (above G (s.r i)) (sym goes) refl
    where
      goes : out_test posed j i q ≡ (t.permitted j i && not (q.seen i))
      goes = ap (λ e. going e && (t.permitted j i && not (q.seen i))) f.1.open'

      more : (p : Search) → Up q p → p.seen i ≡ true → (k : ℕ) → k < suc i → t.permitted j k ≡ true → p.seen k ≡ true
      more p up e k l w = here (cases_eq k i)
        where
          here : (k ≡ i) ⊎ (k ≡ i → ⊥) → p.seen k ≡ true
          here (inl u) = ap p.seen u ∙ e
          here (inr u) = up.seen k (f.3 k (omega arith) w)

      go : (a b : Bool) → (t.permitted j i && not (q.seen i)) ≡ a → above G (s.r i) ≡ b
          → Scanned c m A j (suc i) (came a b j i q) ⊎ ((z : ℕ) × Ended z (came a b j i q))
      go false b e w = inl (f.0, f.1, f.2, λ k lk p. old k lk p (cases_eq k i) (and_cases (t.permitted j i) (not (q.seen i)) e))
        where
          old : (k : ℕ) → k < suc i → t.permitted j k ≡ true → (k ≡ i) ⊎ (k ≡ i → ⊥) → (t.permitted j i ≡ false) ⊎ (not (q.seen i) ≡ false) → q.seen k ≡ true
          old k lk p (inl u) (inl y) = clash (t.permitted j k) p (ap (t.permitted j) u ∙ y)
          old k lk p (inl u) (inr y) = ap q.seen u ∙ not-false (q.seen i) y
          old k lk p (inr u) y = f.3 k (omega arith) p
      go true b e w = fin b w
        where
          u : (t.permitted j i ≡ true) × (not (q.seen i) ≡ true)
          u = and_parts (t.permitted j i) (not (q.seen i)) e

          new : q.seen i ≡ false
          new = not-true (q.seen i) u.1

          on : MetAt G t s m i
          on = first_met c m A f.0 (λ k. ⊥) q j i lj li u.0 f.1 new

          link : Link G t s m j i
          link = record { giver = lj.0; receiver = li; allowed = u.0; from = lj.1; onto = on }

          tree' : Tree (noted j i q)
          tree' = note_tree m q j i link f.2 f.1.tree

          first : Mid c m A f.0 (λ v. v ≡ j) (λ k. k ≡ i) (noted j i q)
          first =
              record {
                open' = f.1.open';
                tree = tree';
                queue = f.1.queue;
                now = f.1.now;
                next = f.1.next;
                all = f.1.all;
                done = λ v l r. done v (f.1.done v l r);
                swept = λ k l r. swept k l (mark_down q.seen i k r);
                tally = f.1.tally;
              }
            where
              done : (v : ℕ) → (v ≡ j) ⊎ (In v A ⊎ (In v f.0 ⊎ Done q v)) → (v ≡ j) ⊎ (In v A ⊎ (In v f.0 ⊎ Done (noted j i q) v))
              done v (inl r) = inl r
              done v (inr (inl r)) = inr (inl r)
              done v (inr (inr (inl r))) = inr (inr (inl r))
              done v (inr (inr (inr r))) = inr (inr (inr (λ k l p. mark_up q.seen i k (r k l p))))

              swept : (k : ℕ) → k < t.n → (k ≡ i) ⊎ ((k ≡ i → ⊥) × (q.seen k ≡ true)) → (k ≡ i) ⊎ Swept (noted j i q) k
              swept k l (inl r) = inl r
              swept k l (inr r) = was (f.1.swept k l r.1)
                where
                  was : ⊥ ⊎ Swept q k → (k ≡ i) ⊎ Swept (noted j i q) k
                  was (inl y) = absurd y
                  was (inr y) = inr (record { full = y.full; backed = y.backed })

          fin : (b : Bool) → above G (s.r i) ≡ b
              → Scanned c m A j (suc i) (came true b j i q) ⊎ ((z : ℕ) × Ended z (came true b j i q))
          fin true w =
              inr (i, record { at' = refl; inside = li; seen = mark_here q.seen i true i refl; wants = w; tree = same_tree (noted j i q) q.pending (found i) tree' })
          fin false w = inl (clean (sweep_below c m A f.0 (λ v. v ≡ j) (λ k. k ≡ i) (noted j i q) i li on (mark_here q.seen i true i refl) first t.n (omega arith)))
            where
              p : Search
              p = backs posed i t.n (noted j i q)

              clean : Backed c m A (λ v. v ≡ j) (λ k. k ≡ i) (noted j i q) i t.n p → Scanned c m A j (suc i) p
              clean y = (
                y.0,
                settle c m A y.0 (λ v. v ≡ j) (λ k. k ≡ i) (λ v. v ≡ j) (λ k. ⊥) p (λ v r. inl r)
                    (λ k r. inr (subst (Swept p) (sym r) (record { full = w; backed = y.3 }))) y.1,
                y.2.reached j f.2,
                more p (record { reached = y.2.reached; seen = λ k r. y.2.seen k (mark_up q.seen i k r) }) (y.2.seen i (mark_here q.seen i true i refl)),
              )

  -- giver j comes to the receivers below b
  pub scan : (c m : ℕ) (A : List ℕ) (j : ℕ) (q : Search) → Level m j → Scanned c m A j 0 q → (b : ℕ) → b ≤ t.n
      → Scanned c m A j b (outs posed j b q) ⊎ ((z : ℕ) × Ended z (outs posed j b q))
  unfolding sweep
  scan c m A j q lj f zero l = inl f
  scan c m A j q lj f (suc b) l = go (scan c m A j q lj f b (omega arith))
    where
      p : Search
      p = outs posed j b q

      go : Scanned c m A j b p ⊎ ((z : ℕ) × Ended z p) → Scanned c m A j (suc b) (outs posed j (suc b) q) ⊎ ((z : ℕ) × Ended z (outs posed j (suc b) q))
      go (inl y) = scan_one c m A j b p lj (omega arith) y
      go (inr y) =
          inr (y.0, subst (λ e. Ended y.0 (came (going e && (t.permitted j b && not (p.seen b))) (above G (s.r b)) j b p)) (sym y.1.at') y.1)
