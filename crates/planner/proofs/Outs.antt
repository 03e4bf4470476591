-- The visit of a giver, as a loop over the places of a word.
use Rattle.std.proofs.Common.{◌≡◌, ℕ, zero, suc, ◌<◌, ◌≤◌, Bool, true, false, cond, not, ◌&&◌, eqb, get_or, set, sym, refl, ap, ◌∙◌, subst, ap₂, arith}
use Rattle.std.proofs.lemmas.Bool.{and_left, cond-true, cond-false}
use Rattle.words.specs.Words.{bit, Lowest}
use Rattle.words.specs.Sweep.{sweep, Swept}
use Rattle.words.proofs.Sweeps.{Acts, sweep_starts, sweep_acts}
use Rattle.flow.specs.Search.{Ends, searching, found, Search, joined, noted, ended}
use Rattle.planner.specs.declared.state.Seek.{Seek}
use Rattle.planner.specs.declared.state.Words.{Words}
use Rattle.flow.specs.Search.{Tests, going, back_test, backs, out_test, out_act, outs}
use Rattle.planner.specs.Model.{places, model, tests, Sound}
use Rattle.planner.proofs.Marks.{marked, mark_other, bit_marked}

abbrev pub Outing : Words → ℕ → Seek → ℕ → Seek → Type 0
Outing w j q₀ v q = Swept (out_test (tests w) j) (out_act (tests w) j) w.n (model searching q₀) v (model searching q)

-- the way back leaves the receivers and the end alone
pub backs_keep : (t : Tests) (i m : ℕ) (p : Search) → ((backs t i m p).seen ≡ p.seen) × ((backs t i m p).ends ≡ p.ends)
unfolding sweep
backs_keep t i zero p = (refl, refl)
backs_keep t i (suc m) p = go (back_test t i m (backs t i m p)) (backs_keep t i m p)
  where
    go : (b : Bool) → ((backs t i m p).seen ≡ p.seen) × ((backs t i m p).ends ≡ p.ends)
        → ((cond b (joined i m (backs t i m p)) (backs t i m p)).seen ≡ p.seen) × ((cond b (joined i m (backs t i m p)) (backs t i m p)).ends ≡ p.ends)
    go true ih = ih
    go false ih = ih

pub outs_start : (w : Words) (q : Seek) (j v : ℕ) → ((i : ℕ) → bit v i ≡ (bit (get_or w.permitted j 0) i && not (bit q.seen i))) → Outing w j q v q
outs_start w q j v h =
    sweep_starts (out_test (tests w) j) (out_act (tests w) j) w.n (model searching q) v
    (λ i a. h i ∙ and_left (bit (get_or w.permitted j 0) i) (not (bit q.seen i)) (w.fitted.permits j i a)) (λ i a. h i)

-- a search that has noted receiver i is sound, and stands for what noting it gives
module _ (n : ℕ) (q : Seek) (j i m : ℕ) (s : Sound n q) (y : j < n) (z : i < n) (o : n ≤ 64) (e : (k : ℕ) → bit m k ≡ cond (eqb k i) true (bit q.seen k)) where
  abbrev pub seen_too : Seek
  seen_too =
      record { queue = q.queue; head = q.head; tail = q.tail; reached = q.reached; seen = m; marks = record { from = set q.marks.from i j; via = q.marks.via } }

  pub noted_model : (z : Ends) → model z seen_too ≡ noted j i (model z q)
  noted_model ends =
      λ k. record { pending = (model ends q).pending; reached = bit q.reached; seen = bit_marked q.seen i m e k; from = marked q.marks.from i j 0 (omega (arith, s.marks.froms)) k; via = places q.marks.via; ends = ends }

module _ (w : Words) (q₀ q : Seek) (j v i u : ℕ) (b : Outing w j q₀ v q) (l : Lowest v i u) where
  acts : Acts (out_test (tests w) j) (out_act (tests w) j) w.n (model searching q₀) (model searching q) i u
  acts = sweep_acts (out_test (tests w) j) (out_act (tests w) j) w.n (model searching q₀) v (model searching q) i u b l

  module _ (q₁ : Seek) (n : (z : Ends) → model z q₁ ≡ noted j i (model z q)) where
    -- the search ends at i
    pub outs_found : bit w.takers i ≡ true → model (found i) q₁ ≡ outs (tests w) j w.n (model searching q₀)
    outs_found t = there ∙ acts.over (λ k a c. ap (λ x. going x.ends && (bit (get_or w.permitted j 0) k && not (x.seen k))) (sym there))
      where
        there : model (found i) q₁ ≡ out_act (tests w) j i (model searching q)
        there =
            ap (ended i) (n searching)
            ∙ sym (cond-true (bit w.takers i) (ended i (noted j i (model searching q))) (backs (tests w) i w.n (noted j i (model searching q))) t)

    -- or it goes on
    pub outs_next : bit w.takers i ≡ false → (q' : Seek) → model searching q' ≡ backs (tests w) i w.n (model searching q₁) → Outing w j q₀ u q'
    outs_next t q' h = subst (Swept (out_test (tests w) j) (out_act (tests w) j) w.n (model searching q₀) u) (sym there) (acts.onward stay)
      where
        chosen : out_act (tests w) j i (model searching q) ≡ backs (tests w) i w.n (noted j i (model searching q))
        chosen = cond-false (bit w.takers i) (ended i (noted j i (model searching q))) (backs (tests w) i w.n (noted j i (model searching q))) t

        there : model searching q' ≡ out_act (tests w) j i (model searching q)
        there = h ∙ ap (backs (tests w) i w.n) (n searching) ∙ sym chosen

        stay : (k : ℕ) → i < k → k < w.n → out_test (tests w) j k (out_act (tests w) j i (model searching q)) ≡ out_test (tests w) j k (model searching q)
        stay k a c =
            let kept = backs_keep (tests w) i w.n (noted j i (model searching q)) in
            ap (out_test (tests w) j k) chosen
            ∙ ap₂ (λ x y. going x && (bit (get_or w.permitted j 0) k && not (y k))) kept.1 kept.0
            ∙ ap (λ x. bit (get_or w.permitted j 0) k && not x) (mark_other (bit q.seen) i true k (λ x. omega arith))
