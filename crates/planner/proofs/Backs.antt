-- The sweep back from a receiver, as a loop over the places of a word.
use Rattle.std.proofs.Common.{◌≡◌, ℕ, true, not, ◌&&◌, get_or, sym, ap, ◌∙◌, subst, arith}
use Rattle.std.proofs.lemmas.Bool.{and_left}
use Rattle.words.specs.Words.{bit, Lowest}
use Rattle.words.specs.Sweep.{Swept}
use Rattle.words.proofs.Sweeps.{Acts, sweep_starts, sweep_acts}
use Rattle.flow.specs.Search.{searching, joined}
use Rattle.planner.specs.declared.state.Seek.{Seek}
use Rattle.planner.specs.declared.state.Words.{Words}
use Rattle.flow.specs.Search.{back_test}
use Rattle.planner.specs.Model.{model, tests}
use Rattle.planner.proofs.Marks.{mark_other}

abbrev pub Backing : Words → ℕ → Seek → ℕ → Seek → Type 0
Backing w i q₀ v q = Swept (back_test (tests w) i) (joined i) w.n (model searching q₀) v (model searching q)

pub backs_start : (w : Words) (q : Seek) (i v : ℕ) → ((j : ℕ) → bit v j ≡ (bit (get_or w.holders i 0) j && not (bit q.reached j))) → Backing w i q v q
backs_start w q i v h =
    sweep_starts (back_test (tests w) i) (joined i) w.n (model searching q) v
    (λ k a. h k ∙ and_left (bit (get_or w.holders i 0) k) (not (bit q.reached k)) (w.fitted.holds i k a)) (λ k a. h k)

module _ (w : Words) (q₀ q : Seek) (i v k u : ℕ) (b : Backing w i q₀ v q) (l : Lowest v k u) where
  acts : Acts (back_test (tests w) i) (joined i) w.n (model searching q₀) (model searching q) k u
  acts = sweep_acts (back_test (tests w) i) (joined i) w.n (model searching q₀) v (model searching q) k u b l

  pub backs_next : (q' : Seek) → model searching q' ≡ joined i k (model searching q) → Backing w i q₀ u q'
  backs_next q' e =
      subst (Swept (back_test (tests w) i) (joined i) w.n (model searching q₀) u) (sym e)
      (acts.onward (λ j a c. ap (λ t. bit (get_or w.holders i 0) j && not t) (mark_other (bit q.reached) k true j (λ x. omega arith))))
