-- A search that comes from a starting giver straight to a receiver who has something to get.
use Rattle.std.proofs.Common.{◌≡◌, ℕ, zero, suc, ◌<◌, ◌≤◌, true, false, ◌&&◌, eqb, ◌⊎◌, List, [], ◌∷◌, get_or, cond, None, sym, refl, ap, ◌∙◌, subst, inl, inr}
use Rattle.std.proofs.lemmas.Bool.{and_parts, cases_eq, cases_lt, eq-eqb, ne_eqb, cond-true, cond-false}
use Rattle.words.specs.Words.{bit, Lowest}
use Rattle.words.proofs.Digits.{bit_zero}
use Rattle.flow.specs.Routes.{Hop}
use Rattle.flow.specs.Search.{Tests, Search, Ends, found, trace, search_all}
use Rattle.flow.proofs.AtOnce.{Idle, at_once}
use Rattle.flow.proofs.Visits.{clash}
use Rattle.planner.specs.declared.state.Marks.{Marks}
use Rattle.planner.specs.declared.state.Seek.{Seek}
use Rattle.planner.specs.declared.state.Words.{Words}
use Rattle.planner.specs.Finds.{Straight}
use Rattle.planner.specs.Model.{model, marked, tests}
use Rattle.planner.specs.Inside.{Inside, marks_of}
use Rattle.planner.proofs.Starts.{zeros}

-- a way back from a giver with something to give ends there
trace_here : (t : Tests) (b : ℕ) (q : Search) (j : ℕ) (hs : List Hop) → t.starts j ≡ true → trace t b q j hs ≡ record { first = j; hops = hs }
unfolding trace
trace_here t zero q j hs e = refl
trace_here t (suc b) q j hs e = cond-true (t.starts j) (record { first = j; hops = hs }) (trace t b q (q.from (q.via j)) (record { over = q.via j; to = j } ∷ hs)) e

-- a place of a word that has none from n on lies below n
inside : (v n k : ℕ) → ((a : ℕ) → n ≤ a → bit v a ≡ false) → bit v k ≡ true → k < n
inside v n k none e = go (cases_lt k n)
  where
    go : (k < n) ⊎ (n ≤ k) → k < n
    go (inl l) = l
    go (inr l) = clash (bit v k) e (none k l)

-- the starting givers of the word v are still to be tried, and the others may give to nobody who has something to get
pub record Untried (w : Words) (v : ℕ) : Type 0 where
  pub among : (k : ℕ) → bit v k ≡ true → bit w.givers k ≡ true
  pub idle : (k : ℕ) → bit w.givers k ≡ true → bit v k ≡ false → Idle (tests w) w.n k

pub untried_all : (w : Words) → Untried w w.givers
untried_all w = record { among = λ k e. e; idle = λ k e f. clash (bit w.givers k) e f }

-- giver j is tried next; the word o has those who may receive from it and have something to get
module _ (w : Words) (v j u : ℕ) (p : Untried w v) (low : Lowest v j u) (o : ℕ)
    (both : (a : ℕ) → bit o a ≡ (bit (get_or w.permitted j 0) a && bit w.takers a)) where
  -- they are none
  pub untried_next : o ≡ 0 → Untried w u
  untried_next none = record {
    among = λ k e. p.among k (sym (other k (cases_eq k j) e) ∙ e);
    idle = λ k e f. tried k e f (cases_eq k j);
  }
    where
      other : (k : ℕ) → (k ≡ j) ⊎ (k ≡ j → ⊥) → bit u k ≡ true → bit u k ≡ bit v k
      other k (inl e) t = clash (bit u k) t (low.rest k ∙ cond-true (eqb k j) false (bit v k) (eq-eqb k j e))
      other k (inr e) t = low.rest k ∙ cond-false (eqb k j) false (bit v k) (ne_eqb k j e)

      tried : (k : ℕ) → bit w.givers k ≡ true → bit u k ≡ false → (k ≡ j) ⊎ (k ≡ j → ⊥) → Idle (tests w) w.n k
      tried k e f (inl s) = λ a l. ap (λ b. bit (get_or w.permitted b 0) a && bit w.takers a) s ∙ sym (both a) ∙ ap (λ x. bit x a) none ∙ bit_zero a
      tried k e f (inr s) = p.idle k e (sym (low.rest k ∙ cond-false (eqb k j) false (bit v k) (ne_eqb k j s)) ∙ f)

  -- the first of them is i
  pub straight_ends : (i : ℕ) → (i < 64) × (bit o i ≡ true) × ((k : ℕ) → k < i → bit o k ≡ false) → Straight w j i
  straight_ends i first =
      let starts = p.among j low.set in
      let giver = inside w.givers w.n j w.fitted.givers starts in
      let here = and_parts (bit (get_or w.permitted j 0) i) (bit w.takers i) (sym (both i) ∙ first.1) in
      let receiver = inside (get_or w.permitted j 0) w.n i (w.fitted.permits j) here.0 in
      let end = at_once (tests w) j i receiver here.0 here.1 (λ k l. sym (both k) ∙ first.2 k l) giver starts (λ k l e. p.idle k e (low.below k l)) in
      record { giver = giver; receiver = receiver; starts = starts; ends = end.ends; from = end.from }

-- the way of one link, whatever marks are looked at
pub straight_way : (w : Words) (j i : ℕ) → Straight w j i → (m : Marks)
    → trace (tests w) w.n (search_all (tests w)) ((search_all (tests w)).from i) [] ≡ trace (tests w) w.n (marked m i) j []
straight_way w j i s m =
    ap (λ a. trace (tests w) w.n (search_all (tests w)) a []) s.from ∙ trace_here (tests w) w.n (search_all (tests w)) j [] s.starts
    ∙ sym (trace_here (tests w) w.n (marked m i) j [] s.starts)

-- no marks lead beyond the members
pub none_inside : (n : ℕ) → Inside n (marks_of None).from (marks_of None).via
none_inside n = record {
  froms = refl;
  vias = refl;
  sources = λ a p. subst (λ b. b < n) (sym (zeros 64 a)) p;
  bridges = λ a p. subst (λ b. b < n) (sym (zeros 64 a)) p;
}

-- a way back goes by the marks alone
trace_marked : (t : Tests) (e : Ends) (q : Seek) (z b j : ℕ) (hs : List Hop) → trace t b (model e q) j hs ≡ trace t b (marked q.marks z) j hs
unfolding trace
trace_marked t e q z zero j hs = refl
trace_marked t e q z (suc b) j hs =
    ap (cond (t.starts j) (record { first = j; hops = hs }))
    (trace_marked t e q z b (get_or q.marks.from (get_or q.marks.via j 0) 0) (record { over = get_or q.marks.via j 0; to = j } ∷ hs))

-- a whole search to receiver i has its way back
pub search_way : (w : Words) (q : Seek) (i : ℕ) → model (found i) q ≡ search_all (tests w)
    → trace (tests w) w.n (search_all (tests w)) ((search_all (tests w)).from i) [] ≡ trace (tests w) w.n (marked q.marks i) (get_or q.marks.from i 0) []
search_way w q i e =
    sym (ap (λ r. trace (tests w) w.n r (r.from i) []) e) ∙ trace_marked (tests w) (found i) q i w.n (get_or q.marks.from i 0) []
