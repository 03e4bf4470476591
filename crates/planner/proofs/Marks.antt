-- Writes to the words and arrays of a search.
use Rattle.std.proofs.Common.{◌≡◌, ℕ, zero, suc, ◌+◌, ◌<◌, ◌≤◌, Bool, true, false, cond, eqb, ◌⊎◌, List, [], ◌∷◌, ◌++◌, length, get_or, take, drop, set, sym, refl, ap, ◌∙◌, subst, inl, inr, add-one, arith, length-take, take-suc-set}
use mathlib.Core.Path.{fun_ext}
use lib.Seq.{drop-append-le}
use Rattle.std.proofs.lemmas.List.{get_or-set_same, get_or-set_other, length-set}
use Rattle.std.proofs.lemmas.Bool.{cases_eq, eq-eqb, ne_eqb, cond-true, cond-false}
use Rattle.words.specs.Words.{bit}
use Rattle.flow.specs.Counts.{count}
use Rattle.flow.specs.Search.{Ends, mark, joined}
use Rattle.flow.proofs.Counting.{count_lt, count_most}
use Rattle.planner.specs.declared.state.Seek.{Seek}
use Rattle.planner.specs.Model.{places, model, Sound}

pub marked : {A : Type 0} (l : List A) (k : ℕ) (a d : A) → k < length l → (λ (j : ℕ). get_or (set l k a) j d) ≡ mark (λ j. get_or l j d) k a
unfolding mark
marked l k a d h = fun_ext λ j. go j (cases_eq j k)
  where
    go : (j : ℕ) → (j ≡ k) ⊎ (j ≡ k → ⊥) → get_or (set l k a) j d ≡ cond (eqb j k) a (get_or l j d)
    go j (inl p) =
        subst (λ i. get_or (set l k a) i d ≡ a) (sym p) (get_or-set_same l k a d h) ∙ sym (cond-true (eqb j k) a (get_or l j d) (eq-eqb j k p))
    go j (inr p) = get_or-set_other l k j a d p ∙ sym (cond-false (eqb j k) a (get_or l j d) (ne_eqb j k p))

pub bit_marked : (w k v : ℕ) → ((j : ℕ) → bit v j ≡ cond (eqb j k) true (bit w j)) → bit v ≡ mark (bit w) k true
unfolding mark
bit_marked w k v h = fun_ext h

pub mark_same : {A : Type 0} (f : ℕ → A) (k : ℕ) (a : A) → mark f k a k ≡ a
unfolding mark
mark_same f k a = cond-true (eqb k k) a (f k) (eq-eqb k k refl)

pub mark_other : {A : Type 0} (f : ℕ → A) (k : ℕ) (a : A) (j : ℕ) → (j ≡ k → ⊥) → mark f k a j ≡ f j
unfolding mark
mark_other f k a j h = cond-false (eqb j k) a (f j) (ne_eqb j k h)

mark_keeps : (f : ℕ → Bool) (k j : ℕ) → f j ≡ true → mark f k true j ≡ true
mark_keeps f k j h = go (cases_eq j k)
  where
    go : (j ≡ k) ⊎ (j ≡ k → ⊥) → mark f k true j ≡ true
    go (inl e) = subst (λ i. mark f k true i ≡ true) (sym e) (mark_same f k true)
    go (inr e) = mark_other f k true j e ∙ h

-- a table with all entries below n stays so
pub set_below : (n : ℕ) (l : List ℕ) (k a : ℕ) → a < n → ((c : ℕ) → 0 < n → get_or l c 0 < n) → (c : ℕ) → 0 < n → get_or (set l k a) c 0 < n
set_below n [] k a h f c p = p
set_below n (x ∷ l) zero a h f zero p = h
set_below n (x ∷ l) zero a h f (suc c) p = f (suc c) p
set_below n (x ∷ l) (suc k) a h f zero p = f zero p
set_below n (x ∷ l) (suc k) a h f (suc c) p = set_below n l k a h (λ d. f (suc d)) c p

module _ (n : ℕ) (q : Seek) (k : ℕ) (s : Sound n q) (m : n ≤ 64) (l : k < n) (e : bit q.reached k ≡ false) where
  pub room_left : q.tail < 64
  room_left =
      omega (arith, s.room, count_lt n (bit q.reached) (λ j. true) k l (λ j a f. refl) e refl, count_most n (λ j. true))

  module _ (i v : ℕ) (y : i < n) (b : bit v ≡ mark (bit q.reached) k true) where
    -- giver k has joined
    abbrev pub after : Seek
    after =
        record { queue = set q.queue q.tail k; head = q.head; tail = q.tail + 1; reached = v; seen = q.seen; marks = record { from = q.marks.from; via = set q.marks.via k i } }

    space : q.tail < length q.queue
    space = omega (arith, room_left, s.queues)

    pub after_model : (z : Ends) → model z after ≡ joined i k (model z q)
    after_model z =
        λ j. record { pending = queue j; reached = b j; seen = bit q.seen; from = places q.marks.from; via = marked q.marks.via k i 0 (omega (arith, s.marks.vias)) j; ends = z }
      where
        queue : drop q.head (take (q.tail + 1) (set q.queue q.tail k)) ≡ drop q.head (take q.tail q.queue) ++ (k ∷ [])
        queue =
            ap (λ m. drop q.head (take m (set q.queue q.tail k))) (add-one q.tail)
            ∙ ap (drop q.head) (take-suc-set q.queue q.tail k space)
            ∙ drop-append-le q.head (take q.tail q.queue) (k ∷ []) (simp length-take (omega (arith, s.ahead, space)))

    pub after_sound : Sound n after
    after_sound = record {
      ahead = omega (arith, s.ahead);
      queues = length-set q.queue q.tail k ∙ s.queues;
      room =
          let more = count_lt n (bit q.reached) (mark (bit q.reached) k true) k l (λ j a f. mark_keeps (bit q.reached) k j f) e (mark_same (bit q.reached) k true) in
          let same : count n (bit v) ≡ count n (mark (bit q.reached) k true) = ap (count n) b in
          omega (arith, more, s.room, same);
      members = λ c h. members c h (cases_eq c q.tail);
      marks = record {
        froms = s.marks.froms;
        vias = length-set q.marks.via k i ∙ s.marks.vias;
        sources = s.marks.sources;
        bridges = λ c h. set_below n q.marks.via k i y s.marks.bridges c h;
      };
    }
      where
        members : (c : ℕ) → c < q.tail + 1 → (c ≡ q.tail) ⊎ (c ≡ q.tail → ⊥) → get_or (set q.queue q.tail k) c 0 < n
        members c h (inl p) =
            subst (λ d. get_or (set q.queue q.tail k) d 0 < n) (sym p) (subst (λ a. a < n) (sym (get_or-set_same q.queue q.tail k 0 space)) l)
        members c h (inr p) = subst (λ a. a < n) (sym (get_or-set_other q.queue q.tail c k 0 p)) (s.members c (omega arith))
