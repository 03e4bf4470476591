-- The givers with something to give fill the queue.
use Rattle.std.proofs.Common.{◌≡◌, ℕ, zero, suc, ◌+◌, ◌<◌, Bool, true, false, cond, ◌⊎◌, List, [], ◌∷◌, ◌++◌, length, get_or, take, set, replicate, sym, refl, ap, ◌∙◌, subst, inl, inr, add-one, arith, length-append, length-take, take-suc-set}
use mathlib.Core.Path.{fun_ext}
use Rattle.std.proofs.lemmas.List.{get_or-set_same, get_or-set_other}
use Rattle.std.proofs.lemmas.Bool.{cases_eq}
use Rattle.words.specs.Words.{bit, Lowest}
use Rattle.words.specs.Sweep.{sweep, Swept}
use Rattle.words.proofs.Digits.{bit_zero}
use Rattle.words.proofs.Sweeps.{Acts, sweep_starts, sweep_ends, sweep_acts}
use Rattle.flow.specs.Counts.{count, sum_n, bit as one}
use Rattle.flow.proofs.Counting.{count_most}
use Rattle.flow.specs.Search.{searching}
use Rattle.planner.specs.declared.state.Seek.{Seek}
use Rattle.planner.specs.declared.state.Words.{Words}
use Rattle.flow.specs.Search.{Tests, start_test, start_act, starters, fresh}
use Rattle.planner.specs.Model.{model, tests, Sound}

abbrev pub Starting : Words → ℕ → List ℕ → Type 0
Starting w v ps = Swept (start_test (tests w)) (start_act (tests w)) w.n [] v ps

length_starters : (t : Tests) (m : ℕ) → length (starters t m) ≡ count m t.starts
unfolding sweep sum_n
length_starters t zero = refl
length_starters t (suc m) = go (t.starts m) (length_starters t m)
  where
    go : (b : Bool) → length (starters t m) ≡ count m t.starts
        → length (cond b (starters t m ++ (m ∷ [])) (starters t m)) ≡ count m t.starts + one b
    go true ih = length-append (starters t m) (m ∷ []) ∙ ap (λ x. x + 1) ih
    go false ih = omega arith

pub starts_start : (w : Words) → Starting w w.givers []
starts_start w = sweep_starts (start_test (tests w)) (start_act (tests w)) w.n [] w.givers w.fitted.givers (λ k a. refl)

module _ (w : Words) (queue : List ℕ) (tail v k u : ℕ) (b : Starting w v (take tail queue)) (e : length queue ≡ 64) (o : tail < 65) (l : Lowest v k u) where
  acts : Acts (start_test (tests w)) (start_act (tests w)) w.n [] (take tail queue) k u
  acts = sweep_acts (start_test (tests w)) (start_act (tests w)) w.n [] v (take tail queue) k u b l

  pub starts_room : tail < 64
  starts_room =
      let a : length (take tail queue) + 1 ≡ count (suc k) (bit w.givers) =
      sym (length-append (take tail queue) (k ∷ [])) ∙ ap length acts.done ∙ length_starters (tests w) (suc k) in
      let t : length (take tail queue) ≡ tail = simp length-take (omega arith) in
      omega (arith, a, t, count_most (suc k) (bit w.givers), acts.within, w.fitted.size)

  pub starts_next : Starting w u (take (tail + 1) (set queue tail k))
  starts_next =
      subst (Starting w u)
      (sym (ap (λ m. take m (set queue tail k)) (add-one tail) ∙ take-suc-set queue tail k (omega (arith, starts_room))))
      (acts.onward (λ j a c. refl))

  pub starts_members : ((c : ℕ) → c < tail → get_or queue c 0 < w.n) → (c : ℕ) → c < tail + 1 → get_or (set queue tail k) c 0 < w.n
  starts_members h c a = go (cases_eq c tail)
    where
      go : (c ≡ tail) ⊎ (c ≡ tail → ⊥) → get_or (set queue tail k) c 0 < w.n
      go (inl p) =
          subst (λ d. get_or (set queue tail k) d 0 < w.n) (sym p) (subst (λ x. x < w.n) (sym (get_or-set_same queue tail k 0 (omega (arith, starts_room)))) acts.within)
      go (inr p) = subst (λ x. x < w.n) (sym (get_or-set_other queue tail c k 0 p)) (h c (omega arith))

pub zeros : (m k : ℕ) → get_or {A = ℕ} (replicate m 0) k 0 ≡ 0
zeros zero k = refl
zeros (suc m) zero = refl
zeros (suc m) (suc k) = zeros m k

module _ (w : Words) (queue : List ℕ) (tail : ℕ) (b : Starting w 0 (take tail queue)) (e : length queue ≡ 64) (o : tail < 65) where
  abbrev pub begun : Seek
  begun =
      record { queue = queue; head = 0; tail = tail; reached = w.givers; seen = 0; marks = record { from = replicate 64 0; via = replicate 64 0 } }

  all : take tail queue ≡ starters (tests w) w.n
  all = sweep_ends (start_test (tests w)) (start_act (tests w)) w.n [] (take tail queue) b

  none : ◌≡◌ {A = ℕ → ℕ} (λ k. get_or (replicate 64 0) k 0) (λ k. 0)
  none = fun_ext (zeros 64)

  unseen : bit 0 ≡ (λ k. false)
  unseen = fun_ext bit_zero

  pub begun_model : model searching begun ≡ fresh (tests w)
  begun_model =
      λ j. record { pending = all j; reached = bit w.givers; seen = unseen j; from = none j; via = none j; ends = searching }

  pub begun_sound : ((c : ℕ) → c < tail → get_or queue c 0 < w.n) → Sound w.n begun
  begun_sound h = record {
    ahead = omega arith;
    queues = e;
    room =
        let a : length (take tail queue) ≡ count w.n (bit w.givers) = ap length all ∙ length_starters (tests w) w.n in
        let t : length (take tail queue) ≡ tail = simp length-take (omega arith) in
        omega (arith, a, t);
    members = h;
    marks = record {
      froms = refl;
      vias = refl;
      sources = λ c p. subst (λ a. a < w.n) (sym (zeros 64 c)) p;
      bridges = λ c p. subst (λ a. a < w.n) (sym (zeros 64 c)) p;
    };
  }
