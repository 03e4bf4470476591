-- A search ends at the first starting giver who may give to somebody who wants something to get, and at the first of these.
use Rattle.std.proofs.Common.{◌≡◌, ℕ, zero, suc, ◌+◌, ◌<◌, ◌≤◌, Bool, true, false, cond, not, ◌&&◌, eqb, ◌⊎◌, List, [], ◌∷◌, ◌++◌, length, sym, refl, ap, ap₂, ◌∙◌, subst, inl, inr, true≢false, append_assoc, arith}
use Rattle.std.proofs.lemmas.Bool.{and_parts, cases_eq, cases_lt, eq-eqb, ne_eqb, cond-true, cond-false}
use Rattle.words.specs.Sweep.{sweep}
use Rattle.flow.specs.Search.{Tests, searching, found, Search, mark, joined, noted, ended, popped, going, back_test, backs, out_test, out_act, outs, turn_at, turns, starters, fresh, search_all}
use Rattle.flow.proofs.Counting.{count_most}
use Rattle.flow.proofs.Visits.{Each}
use Rattle.flow.proofs.Starters.{length_starters, starters_split, every_starter}

-- a sweep keeps what each of its acts keeps
sweep_holds : {S : Type 0} (P : S → Type 0) (test : ℕ → S → Bool) (act : ℕ → S → S) → ((k : ℕ) (s : S) → P s → P (act k s))
    → (m : ℕ) (s : S) → P s → P (sweep test act m s)
unfolding sweep
sweep_holds P test act keeps zero s h = h
sweep_holds P test act keeps (suc m) s h = step (test m (sweep test act m s)) (sweep_holds P test act keeps m s h)
  where
    step : (b : Bool) → P (sweep test act m s) → P (cond b (act m (sweep test act m s)) (sweep test act m s))
    step true p = keeps m (sweep test act m s) p
    step false p = p

-- the search has ended at receiver i, seen from giver j
pub record Arrived (j i : ℕ) (q : Search) : Type 0 where
  pub ends : q.ends ≡ found i
  pub from : q.from i ≡ j

-- giver j stands in the queue behind those before it
abbrev Queued : List ℕ → ℕ → Search → Type 0
Queued before j q = (rest : List ℕ) × (q.pending ≡ before ++ (j ∷ rest))

queued_joined : (before : List ℕ) (j i k : ℕ) (q : Search) → Queued before j q → Queued before j (joined i k q)
queued_joined before j i k q h = (h.0 ++ (k ∷ []), ap (λ l. l ++ (k ∷ [])) (h.1) ∙ append_assoc before (j ∷ h.0) (k ∷ []))

module _ (t : Tests) where
  -- giver j may give to nobody below the bound who wants something to get
  abbrev pub Idle : ℕ → ℕ → Type 0
  Idle m j = (k : ℕ) → k < m → (t.permitted j k && t.wants k) ≡ false

  -- the search goes on, and nobody seen wants anything
  record Quiet (q : Search) : Type 0 where
    ends : q.ends ≡ searching
    unwanted : (a : ℕ) → q.seen a ≡ true → t.wants a ≡ false

  -- who wants nothing does not end it
  quiet_act : (j k : ℕ) (p : Search) → t.wants k ≡ false → Quiet p → Quiet (out_act t j k p)
  unfolding mark
  quiet_act j k p none h =
      record { ends = ap (λ q. q.ends) on ∙ kept (λ q. q.ends) (λ a q. refl) ∙ h.ends; unwanted = λ a e. who a e (cases_eq a k) }
    where
      on : out_act t j k p ≡ backs t k (t.n) (noted j k p)
      on = cond-false (t.wants k) (ended k (noted j k p)) (backs t k (t.n) (noted j k p)) none

      -- the way back leaves alone what joining the queue leaves alone
      kept : {A : Type 0} (f : Search → A) → ((a : ℕ) (q : Search) → f (joined k a q) ≡ f q) → f (backs t k (t.n) (noted j k p)) ≡ f (noted j k p)
      kept f same = sweep_holds (λ q. f q ≡ f (noted j k p)) (back_test t k) (joined k) (λ a q e. same a q ∙ e) (t.n) (noted j k p) refl

      who : (a : ℕ) → (out_act t j k p).seen a ≡ true → (a ≡ k) ⊎ (a ≡ k → ⊥) → t.wants a ≡ false
      who a e (inl s) = ap (t.wants) s ∙ none
      who a e (inr s) =
          h.unwanted a
          (sym (ap (λ q. q.seen a) on ∙ kept (λ q. q.seen a) (λ b q. refl) ∙ cond-false (eqb a k) true (p.seen a) (ne_eqb a k s)) ∙ e)

  -- nor does an idle giver
  quiet_outs : (j m : ℕ) (q : Search) → Idle m j → Quiet q → Quiet (outs t j m q)
  unfolding sweep
  quiet_outs j zero q idle h = h
  quiet_outs j (suc m) q idle h = go (out_test t j m (outs t j m q)) refl (quiet_outs j m q (λ k l. idle k (omega arith)) h)
    where
      go : (b : Bool) → out_test t j m (outs t j m q) ≡ b → Quiet (outs t j m q) → Quiet (cond b (out_act t j m (outs t j m q)) (outs t j m q))
      go false e ih = ih
      go true e ih =
          let p = (and_parts (t.permitted j m) (not ((outs t j m q).seen m)) (and_parts (going (outs t j m q).ends) (t.permitted j m && not ((outs t j m q).seen m)) e).1).0 in
          quiet_act j m (outs t j m q) (sym (ap (λ b. b && t.wants m) p) ∙ idle m (omega arith)) ih

  -- whoever is visited, others join at the queue's end
  queued_outs : (before : List ℕ) (j k m : ℕ) (q : Search) → Queued before j q → Queued before j (outs t k m q)
  queued_outs before j k = sweep_holds (Queued before j) (out_test t k) (out_act t k) act
    where
      act : (i : ℕ) (q : Search) → Queued before j q → Queued before j (out_act t k i q)
      act i q h = go (t.wants i)
        where
          go : (b : Bool) → Queued before j (cond b (ended i (noted k i q)) (backs t i (t.n) (noted k i q)))
          go true = h
          go false = sweep_holds (Queued before j) (back_test t i) (joined i) (λ a p. queued_joined before j i a p) (t.n) (noted k i q) h

  module _ (j i : ℕ) (within : i < t.n) (permits : t.permitted j i ≡ true) (wants : t.wants i ≡ true) (lowest : Idle i j) where
    -- receiver i ends it
    meet : (p : Search) → Quiet p → Arrived j i (cond (out_test t j i p) (out_act t j i p) p)
    unfolding mark
    meet p h = record { ends = ap (λ q. q.ends) is; from = ap (λ q. q.from i) is ∙ cond-true (eqb i i) j (p.from i) (eq-eqb i i refl) }
      where
        unseen : (b : Bool) → p.seen i ≡ b → p.seen i ≡ false
        unseen false e = e
        unseen true e = absurd (true≢false (sym wants ∙ h.unwanted i e))

        test : out_test t j i p ≡ true
        test =
            ap (λ e. going e && (t.permitted j i && not (p.seen i))) (h.ends) ∙ ap (λ x. x && not (p.seen i)) permits
            ∙ ap not (unseen (p.seen i) refl)

        is : cond (out_test t j i p) (out_act t j i p) p ≡ ended i (noted j i p)
        is =
            cond-true (out_test t j i p) (out_act t j i p) p test
            ∙ cond-true (t.wants i) (ended i (noted j i p)) (backs t i (t.n) (noted j i p)) wants

    -- the visit of giver j ends there
    arrived : (q : Search) → Quiet q → (m : ℕ) → i < m → Arrived j i (outs t j m q)
    unfolding sweep
    arrived q h zero l = absurd (omega arith)
    arrived q h (suc m) l = go (cases_lt i m) (λ a. arrived q h m a)
      where
        stay : Arrived j i (outs t j m q) → (b : Bool) → b ≡ false → Arrived j i (cond b (out_act t j m (outs t j m q)) (outs t j m q))
        stay r false e = r
        stay r true e = absurd (true≢false e)

        here : m ≡ i → Arrived j i (outs t j (suc m) q)
        here e = subst (λ a. Arrived j i (outs t j (suc a) q)) (sym e) (meet (outs t j i q) (quiet_outs j i q lowest h))

        go : (i < m) ⊎ (m ≤ i) → (i < m → Arrived j i (outs t j m q)) → Arrived j i (outs t j (suc m) q)
        go (inl a) ih =
            let r = ih a in
            stay r (out_test t j m (outs t j m q)) (ap (λ e. going e && (t.permitted j m && not ((outs t j m q).seen m))) (r.ends))
        go (inr a) ih = here (omega arith)

    -- idle givers before j have their turns, and then j has
    comes : (before : List ℕ) → Each (Idle (t.n)) before → (c : ℕ) → Quiet (turns t c (fresh t)) → Queued before j (turns t c (fresh t))
        → (d : ℕ) × (d ≤ c + length before + 1) × Arrived j i (turns t d (fresh t))
    unfolding turns
    comes [] idle c h w =
        let q = turns t c (fresh t) in (
          suc c,
          omega arith,
          subst (Arrived j i) (sym (ap₂ (λ e ps. turn_at t e ps q) (h.ends) (w.1)))
              (arrived (popped (w.0) q) (record { ends = h.ends; unwanted = h.unwanted }) (t.n) within),
        )
    comes (k ∷ before) idle c h w =
        let q = turns t c (fresh t) in
        let turned = sym (ap₂ (λ e ps. turn_at t e ps q) (h.ends) (w.1)) in
        let rest = popped (before ++ (j ∷ w.0)) q in
        let more = comes before (idle.1) (suc c)
        (subst Quiet turned (quiet_outs k (t.n) rest (idle.0) (record { ends = h.ends; unwanted = h.unwanted })))
        (subst (Queued before j) turned (queued_outs before j k (t.n) rest (w.0, refl))) in
        (more.0, omega (arith, more.1), more.2)

    -- a search that has ended stays so
    stays : (d : ℕ) → Arrived j i (turns t d (fresh t)) → (c : ℕ) → d ≤ c → Arrived j i (turns t c (fresh t))
    unfolding turns
    stays d r zero l = let e : d ≡ 0 = omega arith in subst (λ b. Arrived j i (turns t b (fresh t))) e r
    stays d r (suc c) l = go (cases_lt c d) (λ b. stays d r c b)
      where
        go : (c < d) ⊎ (d ≤ c) → (d ≤ c → Arrived j i (turns t c (fresh t))) → Arrived j i (turns t (suc c) (fresh t))
        go (inl b) ih = let e : d ≡ suc c = omega arith in subst (λ b. Arrived j i (turns t b (fresh t))) e r
        go (inr b) ih =
            let a = ih b in
            subst (Arrived j i) (sym (ap (λ e. turn_at t e ((turns t c (fresh t)).pending) (turns t c (fresh t))) (a.ends))) a

    -- so the whole search ends at receiver i, seen from giver j
    pub at_once : j < t.n → t.starts j ≡ true → ((k : ℕ) → k < j → t.starts k ≡ true → Idle (t.n) k) → Arrived j i (search_all t)
    unfolding turns search_all
    at_once inside starts earlier =
        let come = comes (starters t j) (every_starter t (Idle (t.n)) j earlier) 0 (record { ends = refl; unwanted = λ a e. absurd (true≢false (sym e)) })
        (starters_split t j starts (t.n) inside) in
        stays (come.0) (come.2) (t.n) (omega (arith, come.1, length_starters t j, count_most j (t.starts)))
