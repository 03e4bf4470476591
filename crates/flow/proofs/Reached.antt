-- The run step by step: where it starts, where a step leads, and its outcome where it stops.
use Rattle.std.proofs.Common.{◌≡◌, ℕ, suc, ◌-◌, ◌<◌, ◌≤◌, Bool, true, false, ap, ◌∙◌, subst, arith}
use Rattle.groups.specs.Group.{Group, Ordered}
use Rattle.groups.specs.Sums.{Le, above}
use Rattle.flow.specs.Flow.{Task, State, Inv, Closed}
use Rattle.flow.specs.Routes.{augment, Route}
use Rattle.flow.specs.Search.{Ends, searching, found}
use Rattle.flow.specs.Told.{search_of}
use Rattle.flow.specs.Runs.{begin, Run, started, stepped}
use Rattle.flow.specs.Outcomes.{step_held, planned, blocked, outgrown, limit, settled, way_to, verdict, run, outcome, AllHeld}
use Rattle.flow.specs.Reached.{Reached}
use Rattle.flow.proofs.Bound.{begin_inv, bounded}
use Rattle.flow.proofs.Fronts.{Outcome as Searched, route, closed, searched}
use Rattle.flow.proofs.HeldSteps.{step_kept}
use Rattle.flow.proofs.Unrolled.{run_searching, run_planned, run_blocked, run_stepped, run_outgrown}

module _ (G : Group) (t : Task G.Element) (s : State G.Element) where
  -- a search that ends at a receiver has found a shortest route to it
  pub found_route : (z : ℕ) → (search_of G t s).ends ≡ found z
      → (above G (s.r z) ≡ true) × Route G t s 0 (way_to G t s z).first (way_to G t s z).hops z
  found_route z e = go (searched G t s)
    where
      same : (d : Ends) (y : ℕ) → d ≡ found y → d ≡ found z → y ≡ z
      same d y p q = cc

      apart : (d : Ends) → d ≡ searching → d ≡ found z → ⊥
      apart d p q = let n : ◌≡◌ {A = ℕ} 0 1 = cc in omega arith

      go : Searched G t s → (above G (s.r z) ≡ true) × Route G t s 0 (way_to G t s z).first (way_to G t s z).hops z
      go (route y p wants way) =
          subst (λ k. (above G (s.r k) ≡ true) × Route G t s 0 (way_to G t s k).first (way_to G t s k).hops k)
          (same (search_of G t s).ends y p e) (wants, way)
      go (closed p set) = absurd (apart (search_of G t s).ends p e)

  -- a search that ends at none has reached a closed set
  pub searching_closed : (search_of G t s).ends ≡ searching → Closed G t s (search_of G t s).reached
  searching_closed e = go (searched G t s)
    where
      apart : (d : Ends) (y : ℕ) → d ≡ searching → d ≡ found y → ⊥
      apart d y p q = let n : ◌≡◌ {A = ℕ} 0 1 = cc in omega arith

      go : Searched G t s → Closed G t s (search_of G t s).reached
      go (route y p wants way) = absurd (apart (search_of G t s).ends y e p)
      go (closed p set) = set

module _ (G : Group) (held : G.Element → Bool) (t : Task G.Element) where
  pub begin_held : ((j : ℕ) → j < t.n → held (t.w j) ≡ true) → held G.nil ≡ true → AllHeld G held t (begin G t)
  begin_held weights zero_held = record { x_held = λ j i lj li. zero_held; g_held = weights; r_held = weights }

  start_onward : outcome G held t ≡ run G held t (suc (limit t - 0)) 0 (begin G t)
  unfolding outcome
  start_onward = let e : limit t ≡ limit t - 0 = omega arith in ap (λ b. run G held t (suc b) 0 (begin G t)) e

  -- the outcome of a run that stops here
  module _ (c : ℕ) (s : State G.Element) (here : Reached G held t c s) where
    pub reached_searching : (search_of G t s).ends ≡ searching
        → outcome G held t ≡ record { steps = c; end = verdict (settled G t s) (search_of G t s).reached; state = s }
    reached_searching e = here.onward ∙ run_searching G held t (limit t - c) c s e

    pub reached_planned : (search_of G t s).ends ≡ searching → settled G t s ≡ true
        → outcome G held t ≡ record { steps = c; end = planned; state = s }
    reached_planned e h = here.onward ∙ run_planned G held t (limit t - c) c s e h

    pub reached_blocked : (search_of G t s).ends ≡ searching → settled G t s ≡ false
        → outcome G held t ≡ record { steps = c; end = blocked (search_of G t s).reached; state = s }
    reached_blocked e h = here.onward ∙ run_blocked G held t (limit t - c) c s e h

    pub reached_outgrown : (z : ℕ) → (search_of G t s).ends ≡ found z
        → step_held G held s (way_to G t s z).first (way_to G t s z).hops z ≡ false
        → outcome G held t ≡ record { steps = c; end = outgrown; state = s }
    reached_outgrown z e h = here.onward ∙ run_outgrown G held t (limit t - c) c s z e h

module _ (G : Group) (L : Ordered G) (held : G.Element → Bool) (t : Task G.Element) (least : (j : ℕ) → j < t.n → Le G G.nil (t.w j)) where
  pub reached_start : ((j : ℕ) → j < t.n → held (t.w j) ≡ true) → held G.nil ≡ true → Reached G held t 0 (begin G t)
  reached_start weights zero_held =
      record {
        ran = started;
        kept = begin_held G held t weights zero_held;
        inv = begin_inv G L t least;
        few = omega arith;
        onward = start_onward G held t;
      }

  pub reached_step : (c : ℕ) (s : State G.Element) → Reached G held t c s → (z : ℕ) → (search_of G t s).ends ≡ found z
      → step_held G held s (way_to G t s z).first (way_to G t s z).hops z ≡ true
      → Reached G held t (suc c) (augment G (way_to G t s z).first (way_to G t s z).hops z s)
  reached_step c s here z e h =
      record {
        ran = run';
        kept = step_kept G held t s (way_to G t s z).first (way_to G t s z).hops z f.1 here.kept h;
        inv = within.0;
        few = within.1;
        onward = here.onward ∙ run_stepped G held t (limit t - c) c s z e h ∙ ap (λ b. run G held t b (suc c) s') left;
      }
    where
      f : (above G (s.r z) ≡ true) × Route G t s 0 (way_to G t s z).first (way_to G t s z).hops z
      f = found_route G t s z e

      s' : State G.Element
      s' = augment G (way_to G t s z).first (way_to G t s z).hops z s

      run' : Run G t (suc c) s'
      run' = stepped (way_to G t s z).first (way_to G t s z).hops z here.ran f.1 f.0

      within : Inv G t s' × (suc c ≤ limit t)
      within = bounded G L t least (suc c) s' run'

      left : limit t - c ≡ suc (limit t - suc c)
      left = let k : suc c ≤ limit t = within.1 in omega arith
