-- The search finds a shortest route, or a closed set.
use Rattle.std.proofs.Common.{◌≡◌, ℕ, zero, suc, ◌<◌, ◌≤◌, Bool, true, false, cond, ◌⊎◌, List, [], ◌∷◌, ◌++◌, length, sym, refl, ap, ◌∙◌, subst, inl, inr, append-nil, arith}
use mathlib.Core.Bool.{false≢true}
use Rattle.std.proofs.lemmas.Bool.{cases_eq}
use Rattle.words.specs.Sweep.{sweep}
use Rattle.groups.specs.Group.{Group}
use Rattle.groups.specs.Sums.{above}
use Rattle.flow.specs.Flow.{Task, State, Closed}
use Rattle.flow.specs.Levels.{within, met, At, MetAt}
use Rattle.flow.specs.Routes.{Hop, Link, Route}
use Rattle.flow.specs.Search.{Tests, searching, found, Search, Way, popped, outs, turn_at, turns, starters, fresh, search_all, trace}
use Rattle.flow.specs.Outcomes.{way_to}
use Rattle.flow.specs.Told.{told, search_of}
use Rattle.flow.proofs.Counting.{count_most}
use Rattle.flow.proofs.Rounds.{met_found, within_zero, within_found, within_up, at_least, met_least, early}
use Rattle.flow.proofs.Starters.{length_starters, every_starter}
use Rattle.flow.proofs.Visits.{Each, In, each_in, in_left, in_last, clash, Level, Reached, Tree, Done, Swept, Mid, Ended, Scanned, same_tree, settle, scan}

module _ (G : Group) (t : Task G.Element) (s : State G.Element) where
  -- the tests that the state poses
  abbrev posed : Tests
  posed = told G t s

  -- between turns: every reached giver is in the queue or done, and every seen receiver is swept
  abbrev Between : ℕ → ℕ → List ℕ → List ℕ → Search → Type 0
  Between c m A B q = Mid G t s c m A B (λ v. ⊥) (λ i. ⊥) q

  -- one turn: the first giver of the queue is done
  turned : (c m j : ℕ) (A B : List ℕ) (q : Search) → Between c m (j ∷ A) B q
      → ((C : List ℕ) × Between (suc c) m A C (turn_at posed q.ends q.pending q)) ⊎ ((z : ℕ) × Ended G t s z (turn_at posed q.ends q.pending q))
  turned c m j A B q h =
      subst (λ e. ((C : List ℕ) × Between (suc c) m A C (turn_at posed e q.pending q)) ⊎ ((z : ℕ) × Ended G t s z (turn_at posed e q.pending q))) (sym h.open')
      (subst (λ l. ((C : List ℕ) × Between (suc c) m A C (turn_at posed searching l q)) ⊎ ((z : ℕ) × Ended G t s z (turn_at posed searching l q))) (sym h.queue)
      (go (scan G t s (suc c) m A j (popped (A ++ B) q) h.now.0 start t.n (omega arith))))
    where
      start : Scanned G t s (suc c) m A j 0 (popped (A ++ B) q)
      start = (
        B,
        record {
          open' = h.open';
          tree = same_tree G t s q (A ++ B) q.ends h.tree;
          queue = refl;
          now = h.now.1;
          next = h.next;
          all = h.all;
          done = λ v l e. done v (h.done v l e);
          swept = λ i l e. swept i (h.swept i l e);
          tally = omega (arith, h.tally, ap length h.queue);
        },
        h.all j h.now.0.0 h.now.0.1.now,
        λ i l e. absurd (omega arith),
      )
        where
          done : (v : ℕ) → ⊥ ⊎ (((v ≡ j) ⊎ In v A) ⊎ (In v B ⊎ Done G t s q v)) → (v ≡ j) ⊎ (In v A ⊎ (In v B ⊎ Done G t s (popped (A ++ B) q) v))
          done v (inl r) = absurd r
          done v (inr (inl (inl r))) = inl r
          done v (inr (inl (inr r))) = inr (inl r)
          done v (inr (inr r)) = inr (inr r)

          swept : (k : ℕ) → ⊥ ⊎ Swept G t s q k → ⊥ ⊎ Swept G t s (popped (A ++ B) q) k
          swept k (inl r) = absurd r
          swept k (inr r) = inr (record { full = r.full; backed = r.backed })

      p : Search
      p = outs posed j t.n (popped (A ++ B) q)

      go : Scanned G t s (suc c) m A j t.n p ⊎ ((z : ℕ) × Ended G t s z p) → ((C : List ℕ) × Between (suc c) m A C p) ⊎ ((z : ℕ) × Ended G t s z p)
      go (inr y) = inr y
      go (inl y) =
          inl (y.0, settle G t s (suc c) m A y.0 (λ v. v ≡ j) (λ i. ⊥) (λ v. ⊥) (λ i. ⊥) p (λ v r. inr (subst (Done G t s p) (sym r) y.3)) (λ i r. inl r) y.1)

  -- the next round begins
  next_round : (c m : ℕ) (B : List ℕ) (q : Search) → Between c m [] B q → Between c (suc m) B [] q
  next_round c m B q h =
      record {
        open' = h.open';
        tree = h.tree;
        queue = h.queue ∙ sym (append-nil B);
        now = h.next;
        next = tt;
        all = λ v l e. all v l (within_found G t s m v e);
        done = λ v l e. done v (h.done v l e);
        swept = h.swept;
        tally = h.tally;
      }
    where
      done : (v : ℕ) → ⊥ ⊎ (⊥ ⊎ (In v B ⊎ Done G t s q v)) → ⊥ ⊎ (In v B ⊎ (⊥ ⊎ Done G t s q v))
      done v (inl r) = absurd r
      done v (inr (inl r)) = absurd r
      done v (inr (inr (inl r))) = inr (inl r)
      done v (inr (inr (inr r))) = inr (inr (inr r))

      all : (v : ℕ) → v < t.n → (within G t s m v ≡ true) ⊎ ((i : ℕ) × (i < t.n) × (above G (s.x v i) ≡ true) × (met G t s m i ≡ true)) → q.reached v ≡ true
      all v l (inl e) = h.all v l e
      all v l (inr y) = go (h.done f.0 f.1 (h.all f.0 f.1 f.2))
        where
          f : (u : ℕ) × (u < t.n) × (within G t s m u ≡ true) × (t.permitted u y.0 ≡ true)
          f = met_found G t s m y.0 y.3

          sw : ⊥ ⊎ Swept G t s q y.0 → q.reached v ≡ true
          sw (inl r) = absurd r
          sw (inr r) = r.backed v l y.2

          go : ⊥ ⊎ (⊥ ⊎ (In f.0 B ⊎ Done G t s q f.0)) → q.reached v ≡ true
          go (inl r) = absurd r
          go (inr (inl r)) = absurd r
          go (inr (inr (inl r))) =
              let le : suc m ≤ m = at_least G t s (suc m) m f.0 (each_in (Level G t s (suc m)) B f.0 h.next r).1 f.2 in
              absurd (omega arith)
          go (inr (inr (inr r))) = sw (h.swept y.0 y.1 (r y.0 y.1 f.3))

  -- what holds after c turns
  pub data After (c : ℕ) (q : Search) : Type 0 where
    waiting : (m j : ℕ) (A B : List ℕ) → Between c m (j ∷ A) B q → After c q
    empty : (e m : ℕ) → Between e m [] [] q → After c q
    over : (z : ℕ) → Ended G t s z q → After c q

  after_mid : (c m : ℕ) (A B : List ℕ) (q : Search) → Between c m A B q → After c q
  after_mid c m (j ∷ A) B q h = waiting m j A B h
  after_mid c m [] (b ∷ B) q h = waiting (suc m) b B [] (next_round c m (b ∷ B) q h)
  after_mid c m [] [] q h = empty c m h

  after_turn : (c : ℕ) (q : Search) → After c q → After (suc c) (turn_at posed q.ends q.pending q)
  after_turn c q (waiting m j A B h) = go (turned c m j A B q h)
    where
      go : ((C : List ℕ) × Between (suc c) m A C (turn_at posed q.ends q.pending q)) ⊎ ((z : ℕ) × Ended G t s z (turn_at posed q.ends q.pending q))
          → After (suc c) (turn_at posed q.ends q.pending q)
      go (inl y) = after_mid (suc c) m A y.0 (turn_at posed q.ends q.pending q) y.1
      go (inr y) = over y.0 y.1
  after_turn c q (empty e m h) =
      subst (λ d. After (suc c) (turn_at posed d q.pending q)) (sym h.open')
      (subst (λ l. After (suc c) (turn_at posed searching l q)) (sym h.queue) (empty e m h))
  after_turn c q (over z h) = subst (λ d. After (suc c) (turn_at posed d q.pending q)) (sym h.at') (over z h)

  -- the start
  starters_in : (b v : ℕ) → v < b → above G (s.g v) ≡ true → In v (starters posed b)
  unfolding sweep
  starters_in zero v l e = absurd (omega arith)
  starters_in (suc b) v l e = go (cases_eq v b) (λ k. starters_in b v k e) (above G (s.g b)) refl
    where
      go : (v ≡ b) ⊎ (v ≡ b → ⊥) → (v < b → In v (starters posed b)) → (d : Bool) → above G (s.g b) ≡ d
          → In v (cond d (starters posed b ++ (b ∷ [])) (starters posed b))
      go (inl w) ih true f = in_last v b (starters posed b) w
      go (inl w) ih false f = clash (above G (s.g v)) e (ap (λ y. above G (s.g y)) w ∙ f)
      go (inr w) ih true f = in_left v (starters posed b) (b ∷ []) (ih (omega arith))
      go (inr w) ih false f = ih (omega arith)

  starters_level : (b : ℕ) → b ≤ t.n → Each (Level G t s 0) (starters posed b)
  starters_level b l = every_starter posed (Level G t s 0) b (λ k q e. (omega arith, record { now = within_zero G t s k ∙ e; before = λ k lk. absurd (omega arith) }))

  begun : Between 0 0 (starters posed t.n) [] (fresh posed)
  begun =
      record {
        open' = refl;
        tree = record { giver = λ k l e. inl e; receiver = λ i l e. absurd (false≢true e) };
        queue = sym (append-nil (starters posed t.n));
        now = starters_level t.n (omega arith);
        next = tt;
        all = λ v l e. sym (within_zero G t s v) ∙ e;
        done = λ v l e. inr (inl (starters_in t.n v l e));
        swept = λ i l e. absurd (false≢true e);
        tally = omega (arith, length_starters posed t.n);
      }

  after_all : (c : ℕ) → After c (turns posed c (fresh posed))
  unfolding turns
  after_all zero = after_mid 0 0 (starters posed t.n) [] (fresh posed) begun
  after_all (suc c) = after_turn c (turns posed c (fresh posed)) (after_all c)

  -- an empty queue: the givers reached are closed
  closed_set : (e m : ℕ) (q : Search) → Between e m [] [] q → Closed G t s q.reached
  closed_set e m q h =
      record {
        starts = λ j l p. h.all j l (within_up G t s 0 m j (omega arith) (within_zero G t s j ∙ p));
        full = λ j i lj li r p. (seen j i lj li r p).full;
        back = λ j i k lj li lk r p w. (seen j i lj li r p).backed k lk w;
      }
    where
      seen : (j i : ℕ) → j < t.n → i < t.n → q.reached j ≡ true → t.permitted j i ≡ true → Swept G t s q i
      seen j i lj li r p = go (h.done j lj r)
        where
          sw : ⊥ ⊎ Swept G t s q i → Swept G t s q i
          sw (inl y) = absurd y
          sw (inr y) = y

          go : ⊥ ⊎ (⊥ ⊎ (⊥ ⊎ Done G t s q j)) → Swept G t s q i
          go (inl y) = absurd y
          go (inr (inl y)) = absurd y
          go (inr (inr (inl y))) = absurd y
          go (inr (inr (inr y))) = sw (h.swept i li (y i li p))

  -- back along the pointers to a starting giver: a shortest route
  at_same : (m k v : ℕ) → At G t s m v → At G t s k v → m ≡ k
  at_same m k v a b = omega (arith, at_least G t s m k v a b.now, at_least G t s k m v b a.now)

  met_same : (m k i : ℕ) → MetAt G t s m i → MetAt G t s k i → m ≡ k
  met_same m k i a b = omega (arith, met_least G t s m k i a b.now, met_least G t s k m i b a.now)

  pub traced : (q : Search) → Tree G t s q → (z : ℕ) (b m j : ℕ) (hs : List Hop) → m < b → j < t.n → q.reached j ≡ true → At G t s m j
      → Route G t s m j hs z → Route G t s 0 (trace (told G t s) b q j hs).first (trace (told G t s) b q j hs).hops z
  unfolding trace
  traced q tree z zero m j hs l lj rj aj way = absurd (omega arith)
  traced q tree z (suc b) m j hs l lj rj aj way = go (above G (s.g j)) refl (λ c k ks. traced q tree z b c k ks)
    where
      hop : Hop
      hop = record { over = q.via j; to = j }

      on : Way
      on = trace posed b q (q.from (q.via j)) (hop ∷ hs)

      go : (d : Bool) → above G (s.g j) ≡ d
          → ((c k : ℕ) (ks : List Hop) → c < b → k < t.n → q.reached k ≡ true → At G t s c k → Route G t s c k ks z
          → Route G t s 0 (trace posed b q k ks).first (trace posed b q k ks).hops z)
          → Route G t s 0 (cond d (record { first = j; hops = hs }) on).first (cond d (record { first = j; hops = hs }) on).hops z
      go true e ih =
          let le : m ≤ 0 = at_least G t s m 0 j aj (within_zero G t s j ∙ e) in
          subst (λ c. Route G t s c j hs z) (omega arith) way
      go false e ih = back (tree.giver j lj rj)
        where
          back : (above G (s.g j) ≡ true) ⊎ ((c : ℕ) × Reached G t s q j c) → Route G t s 0 on.first on.hops z
          back (inl w) = clash (above G (s.g j)) w e
          back (inr w) =
              let f = tree.receiver (q.via j) w.1.inside w.1.seen in
              let same : f.0 ≡ w.0 = met_same f.0 w.0 (q.via j) f.1.onto w.1.onto in
              let link : Link G t s w.0 (q.from (q.via j)) (q.via j) = subst (λ c. Link G t s c (q.from (q.via j)) (q.via j)) same f.1 in
              let level : m ≡ suc w.0 = at_same m (suc w.0) j aj w.1.level in
              ih w.0 (q.from (q.via j)) (hop ∷ hs) (omega arith) link.giver f.2 link.from
              (link, w.1.above, subst (λ c. Route G t s c j hs z) level way)

  -- the search ends with a shortest route to a receiver with something to get, or with a closed set
  pub data Outcome : Type 0 where
    route : (z : ℕ) → (search_of G t s).ends ≡ found z → above G (s.r z) ≡ true → Route G t s 0 (way_to G t s z).first (way_to G t s z).hops z → Outcome
    closed : (search_of G t s).ends ≡ searching → Closed G t s (search_of G t s).reached → Outcome

  pub searched : Outcome
  unfolding search_all
  searched = go (after_all t.n)
    where
      go : After t.n (turns posed t.n (fresh posed)) → Outcome
      go (waiting m j A B h) =
          absurd (omega (arith, h.tally, ap length h.queue, count_most t.n (turns posed t.n (fresh posed)).reached))
      go (empty e m h) = closed h.open' (closed_set e m (turns posed t.n (fresh posed)) h)
      go (over z h) =
          let q = turns posed t.n (fresh posed) in
          let f = h.tree.receiver z h.inside h.seen in
          route z h.at' h.wants
          (traced q h.tree z t.n f.0 (q.from z) [] (early G t s f.0 (q.from z) f.1.giver f.1.from) f.1.giver f.2 f.1.from f.1)
