-- One giver after another leaves the queue.
use Rattle.std.proofs.Common.{◌≡◌, ℕ, zero, suc, ◌+◌, ◌<◌, ◌≤◌, ◌⊎◌, [], ◌∷◌, get_or, take, drop, sym, refl, ap, ◌∙◌, subst, inl, inr, add-one, arith, length-take, get_or-take}
use Rattle.std.proofs.lemmas.List.{drop_more, drop_all}
use Rattle.std.proofs.lemmas.Bool.{cases_lt}
use Rattle.words.specs.Words.{bit}
use Rattle.flow.proofs.Counting.{count_most}
use Rattle.flow.specs.Search.{Ends, searching, found, Search}
use Rattle.planner.specs.declared.state.Seek.{Seek}
use Rattle.planner.specs.declared.state.Words.{Words}
use Rattle.flow.specs.Search.{Tests, outs, turn_at, turns, fresh, search_all}
use Rattle.planner.specs.Model.{model, tests, Sound}

-- once nothing moves, nothing moves again
pub turns_rest : (t : Tests) (c m : ℕ) (q : Search) → c ≤ m
    → turn_at t (turns t c q).ends (turns t c q).pending (turns t c q) ≡ turns t c q → turns t m q ≡ turns t c q
unfolding turns
turns_rest t c zero q h e = let z : 0 ≡ c = omega arith in ap (λ k. turns t k q) z
turns_rest t c (suc m) q h e = go (cases_lt m c) (λ l. turns_rest t c m q l e)
  where
    go : (m < c) ⊎ (c ≤ m) → (c ≤ m → turns t m q ≡ turns t c q) → turns t (suc m) q ≡ turns t c q
    go (inl a) ih = let z : suc m ≡ c = omega arith in ap (λ k. turns t k q) z
    go (inr a) ih = ap (λ p. turn_at t p.ends p.pending p) (ih a) ∙ e

module _ (w : Words) (q : Seek) (s : Sound w.n q) where
  pub tail_most : q.tail ≤ w.n
  tail_most = omega (arith, s.room, count_most w.n (bit q.reached))

  -- the queue is empty
  pub turns_end : (z : Ends) → q.tail ≤ q.head → model searching q ≡ turns (tests w) q.head (fresh (tests w))
      → model searching q ≡ search_all (tests w)
  unfolding search_all
  turns_end z h e =
      e ∙ sym (turns_rest (tests w) q.head w.n (fresh (tests w)) (omega (arith, tail_most, s.ahead))
      (subst (λ p. turn_at (tests w) p.ends p.pending p ≡ p) e (ap (λ ps. turn_at (tests w) searching ps (model searching q)) none)))
    where
      none : drop q.head (take q.tail q.queue) ≡ []
      none = drop_all q.head (take q.tail q.queue) (simp length-take (omega arith))

  module _ (h : q.head < q.tail) where
    pub first_in : get_or q.queue q.head 0 < w.n
    first_in = s.members q.head h

    abbrev pub left : Seek
    left =
        record { queue = q.queue; head = q.head + 1; tail = q.tail; reached = q.reached; seen = q.seen; marks = q.marks }

    pub left_sound : Sound w.n left
    left_sound = record {
      ahead = omega arith;
      queues = s.queues;
      room = s.room;
      members = s.members;
      marks = s.marks;
    }

    pending : drop q.head (take q.tail q.queue) ≡ get_or q.queue q.head 0 ∷ drop (q.head + 1) (take q.tail q.queue)
    pending =
        drop_more (take q.tail q.queue) q.head 0 (simp length-take (omega (arith, tail_most, s.queues, w.fitted.size)))
        ∙ ap (λ j. j ∷ drop (q.head + 1) (take q.tail q.queue)) (get_or-take q.tail q.queue q.head 0 h)

    pub turn_made : model searching q ≡ turns (tests w) q.head (fresh (tests w)) → (p : Search)
        → p ≡ outs (tests w) (get_or q.queue q.head 0) w.n (model searching left) → p ≡ turns (tests w) (q.head + 1) (fresh (tests w))
    unfolding turns
    turn_made e p o =
        o ∙ sym (ap (λ ps. turn_at (tests w) searching ps (model searching q)) pending)
        ∙ ap (λ r. turn_at (tests w) r.ends r.pending r) e
        ∙ ap (λ c. turns (tests w) c (fresh (tests w))) (sym (add-one q.head))

    pub turn_found : model searching q ≡ turns (tests w) q.head (fresh (tests w)) → (i : ℕ) (q' : Seek)
        → model (found i) q' ≡ outs (tests w) (get_or q.queue q.head 0) w.n (model searching left) → model (found i) q' ≡ search_all (tests w)
    unfolding search_all
    turn_found e i q' o =
        let made = turn_made e (model (found i) q') o in
        made ∙ sym (turns_rest (tests w) (q.head + 1) w.n (fresh (tests w)) (omega (arith, tail_most))
        (subst (λ p. turn_at (tests w) p.ends p.pending p ≡ p) made refl))
