-- One turn of the run, by the end of its search.
use Rattle.std.proofs.Common.{◌≡◌, ℕ, suc, Bool, true, false, ap, ◌∙◌}
use Rattle.groups.specs.Group.{Group}
use Rattle.flow.specs.Flow.{Task, State}
use Rattle.flow.specs.Routes.{augment}
use Rattle.flow.specs.Search.{searching, found}
use Rattle.flow.specs.Told.{search_of}
use Rattle.flow.specs.Outcomes.{step_held, planned, blocked, outgrown, settled, way_to, verdict, step_at, turn_by, run}

module _ (G : Group) (held : G.Element → Bool) (t : Task G.Element) (b c : ℕ) (s : State G.Element) where
  pub run_searching : (search_of G t s).ends ≡ searching
      → run G held t (suc b) c s ≡ record { steps = c; end = verdict (settled G t s) (search_of G t s).reached; state = s }
  unfolding run
  run_searching e = ap (λ d. turn_by G held t d (λ later. run G held t b (suc c) later) c s) e

  pub run_planned : (search_of G t s).ends ≡ searching → settled G t s ≡ true
      → run G held t (suc b) c s ≡ record { steps = c; end = planned; state = s }
  run_planned e h = run_searching e ∙ ap (λ v. record { steps = c; end = verdict v (search_of G t s).reached; state = s }) h

  pub run_blocked : (search_of G t s).ends ≡ searching → settled G t s ≡ false
      → run G held t (suc b) c s ≡ record { steps = c; end = blocked (search_of G t s).reached; state = s }
  run_blocked e h = run_searching e ∙ ap (λ v. record { steps = c; end = verdict v (search_of G t s).reached; state = s }) h

  module _ (z : ℕ) (e : (search_of G t s).ends ≡ found z) where
    run_found : run G held t (suc b) c s
        ≡ step_at (step_held G held s (way_to G t s z).first (way_to G t s z).hops z)
        (run G held t b (suc c) (augment G (way_to G t s z).first (way_to G t s z).hops z s)) c s
    unfolding run
    run_found = ap (λ d. turn_by G held t d (λ later. run G held t b (suc c) later) c s) e

    pub run_stepped : step_held G held s (way_to G t s z).first (way_to G t s z).hops z ≡ true
        → run G held t (suc b) c s ≡ run G held t b (suc c) (augment G (way_to G t s z).first (way_to G t s z).hops z s)
    run_stepped h =
        run_found ∙ ap (λ v. step_at v (run G held t b (suc c) (augment G (way_to G t s z).first (way_to G t s z).hops z s)) c s) h

    pub run_outgrown : step_held G held s (way_to G t s z).first (way_to G t s z).hops z ≡ false
        → run G held t (suc b) c s ≡ record { steps = c; end = outgrown; state = s }
    run_outgrown h =
        run_found ∙ ap (λ v. step_at v (run G held t b (suc c) (augment G (way_to G t s z).first (way_to G t s z).hops z s)) c s) h
