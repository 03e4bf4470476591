-- What the outcome of a run says: each end is right, a kind closed below is never outgrown, and no two kinds disagree.
use Rattle.std.proofs.Common.{◌≡◌, ℕ, zero, suc, ◌+◌, ◌<◌, Bool, true, false, sym, refl, ◌∙◌, subst, true≢false, arith}
use Rattle.groups.specs.Group.{Group, Ordered}
use Rattle.groups.specs.Sums.{Le, Lt, minus, sum_below}
use Rattle.groups.proofs.Order.{not_above_nil}
use Rattle.flow.specs.Flow.{Task, State, Closed, near, weight_of}
use Rattle.flow.specs.Search.{searching, found}
use Rattle.flow.specs.Told.{search_of}
use Rattle.flow.specs.Outcomes.{step_held, planned, blocked, outgrown, limit, settled, way_to, verdict, outcome, Outgrows, Answered, ClosedBelow}
use Rattle.flow.specs.Reached.{Reached}
use Rattle.flow.proofs.Answers.{blocked_weights, plan, blocked as blocked-means}
use Rattle.flow.proofs.Bound.{augment_inv}
use Rattle.flow.proofs.Fronts.{Outcome as Searched, route, closed, searched}
use Rattle.flow.proofs.HeldSteps.{kept_step, closed_kept}
use Rattle.flow.proofs.Reached.{found_route, searching_closed, reached_start, reached_step, reached_searching, reached_outgrown}
use Rattle.flow.proofs.Settled.{settled_all, unsettled_some}
use Rattle.flow.proofs.Shortfall.{left_to_give}

-- the three ends are apart, and a blocked end tells its set
planned_blocked : (S : ℕ → Bool) → planned ≡ blocked S → ⊥
planned_blocked S p = let n : ◌≡◌ {A = ℕ} 0 1 = cc in omega arith

planned_outgrown : planned ≡ outgrown → ⊥
planned_outgrown p = let n : ◌≡◌ {A = ℕ} 0 1 = cc in omega arith

blocked_outgrown : (S : ℕ → Bool) → blocked S ≡ outgrown → ⊥
blocked_outgrown S p = let n : ◌≡◌ {A = ℕ} 0 1 = cc in omega arith

same_set : (S T : ℕ → Bool) → blocked S ≡ blocked T → S ≡ T
same_set S T p = cc

module _ (G : Group) (L : Ordered G) (held : G.Element → Bool) (t : Task G.Element) where
  -- a run has stopped where its search finds no route, or before a step that is not held
  data Arrived : Type 0 where
    stopped : (c : ℕ) (s : State G.Element) → Reached G held t c s → (search_of G t s).ends ≡ searching → Arrived
    refused : (c : ℕ) (s : State G.Element) → Reached G held t c s → (z : ℕ) → (search_of G t s).ends ≡ found z
        → step_held G held s (way_to G t s z).first (way_to G t s z).hops z ≡ false → Arrived

  onward : ((j : ℕ) → j < t.n → Le G G.nil (t.w j)) → (b c : ℕ) (s : State G.Element) → limit t < c + b → Reached G held t c s → Arrived
  onward least zero c s l here = absurd (omega (arith, here.few))
  onward least (suc b) c s l here = go (searched G t s) (onward least b (suc c))
    where
      go : Searched G t s → ((s' : State G.Element) → limit t < suc c + b → Reached G held t (suc c) s' → Arrived) → Arrived
      go (closed e set) ih = stopped c s here e
      go (route z e wants way) ih = by (step_held G held s (way_to G t s z).first (way_to G t s z).hops z) refl
        where
          by : (b : Bool) → step_held G held s (way_to G t s z).first (way_to G t s z).hops z ≡ b → Arrived
          by true h = ih _ (omega arith) (reached_step G L held t least c s here z e h)
          by false h = refused c s here z e h

  -- the verdict of a search that finds no route
  module _ (c : ℕ) (s : State G.Element) (here : Reached G held t c s) (S : ℕ → Bool) (set : Closed G t s S) where
    answered_planned : settled G t s ≡ true → Answered G held t (record { steps = c; end = planned; state = s })
    answered_planned h =
        record {
          few = here.few;
          keeps = here.kept;
          sums = here.inv;
          plan = λ e. plan G L t s here.inv (settled_all G t s h);
          given = λ e j l. not_above_nil G L (s.g j) (here.inv.g_least j l) (settled_all G t s h j l);
          blocks = λ T e. absurd (planned_blocked T e);
          shortfall = λ T e. absurd (planned_blocked T e);
          no_plan = λ T e. absurd (planned_blocked T e);
          decides = λ n y fair. refl;
          means = λ e. absurd (planned_outgrown e);
        }

    answered_blocked : settled G t s ≡ false → Answered G held t (record { steps = c; end = blocked S; state = s })
    answered_blocked h =
        let f = unsettled_some G t s h in
        let none = blocked-means G L t s S here.inv set f.0 f.1 f.2 in
        record {
          few = here.few;
          keeps = here.kept;
          sums = here.inv;
          plan = λ e. absurd (planned_blocked S (sym e));
          given = λ e. absurd (planned_blocked S (sym e));
          blocks = λ T e. subst (λ R. Lt G (weight_of G t (near t R)) (weight_of G t R)) (same_set S T e) (blocked_weights G L t s S here.inv set f.0 f.1 f.2);
          shortfall = λ T e. subst (λ R. sum_below G t.n s.g ≡ minus G (weight_of G t R) (weight_of G t (near t R))) (same_set S T e) (left_to_give G L t s S here.inv set);
          no_plan = λ T e. none;
          decides = λ n y fair. absurd (none y fair);
          means = λ e. absurd (blocked_outgrown S e);
        }

    answered_verdict : (b : Bool) → settled G t s ≡ b → Answered G held t (record { steps = c; end = verdict b S; state = s })
    answered_verdict true h = answered_planned h
    answered_verdict false h = answered_blocked h

  -- a step that is refused
  answered_refused : (c : ℕ) (s : State G.Element) → Reached G held t c s → (z : ℕ) → (search_of G t s).ends ≡ found z
      → step_held G held s (way_to G t s z).first (way_to G t s z).hops z ≡ false → Answered G held t (record { steps = c; end = outgrown; state = s })
  answered_refused c s here z e h =
      record {
        few = here.few;
        keeps = here.kept;
        sums = here.inv;
        plan = λ p. absurd (planned_outgrown (sym p));
        given = λ p. absurd (planned_outgrown (sym p));
        blocks = λ T p. absurd (blocked_outgrown T (sym p));
        shortfall = λ T p. absurd (blocked_outgrown T (sym p));
        no_plan = λ T p. absurd (blocked_outgrown T (sym p));
        decides = λ n y fair. absurd (n refl);
        means = λ p. next;
      }
    where
      next : Outgrows G held t s
      next =
          let f = found_route G t s z e in
          record {
            receiver = z;
            arrives = e;
            route = f.1;
            wants = f.0;
            passes = λ all. true≢false (sym (kept_step G held t s (way_to G t s z).first (way_to G t s z).hops z f.1 all) ∙ h);
          }

  arrived_answered : Arrived → Answered G held t (outcome G held t)
  arrived_answered (stopped c s here e) =
      subst (Answered G held t) (sym (reached_searching G held t c s here e))
      (answered_verdict c s here (search_of G t s).reached (searching_closed G t s e) (settled G t s) refl)
  arrived_answered (refused c s here z e h) =
      subst (Answered G held t) (sym (reached_outgrown G held t c s here z e h)) (answered_refused c s here z e h)

-- the outcome is right, whatever the kind holds
pub answered : (G : Group) (L : Ordered G) (held : G.Element → Bool) (t : Task G.Element)
    → ((j : ℕ) → j < t.n → Le G G.nil (t.w j)) → ((j : ℕ) → j < t.n → held (t.w j) ≡ true) → held G.nil ≡ true
    → Answered G held t (outcome G held t)
answered G L held t least weights zero_held =
    arrived_answered G L held t
    (onward G L held t least (suc (limit t)) 0 _ (omega arith) (reached_start G L held t least weights zero_held))

-- a kind that is closed below is never outgrown
pub never_outgrown : (G : Group) (L : Ordered G) (held : G.Element → Bool) (t : Task G.Element)
    → ((j : ℕ) → j < t.n → Le G G.nil (t.w j)) → ((j : ℕ) → j < t.n → held (t.w j) ≡ true) → held G.nil ≡ true
    → ClosedBelow G held → (outcome G held t).end ≡ outgrown → ⊥
never_outgrown G L held t least weights zero_held below e =
    let a = answered G L held t least weights zero_held in
    let m = a.means e in
    let s = (outcome G held t).state in
    m.passes
    (closed_kept G L held t _ below weights (augment_inv G L t s (way_to G t s m.receiver).first (way_to G t s m.receiver).hops m.receiver a.sums m.route m.wants))

-- of two kinds over one task, none plans what the other finds blocked
pub exclude : (G : Group) (L : Ordered G) (held held' : G.Element → Bool) (t : Task G.Element)
    → ((j : ℕ) → j < t.n → Le G G.nil (t.w j))
    → ((j : ℕ) → j < t.n → held (t.w j) ≡ true) → held G.nil ≡ true
    → ((j : ℕ) → j < t.n → held' (t.w j) ≡ true) → held' G.nil ≡ true
    → (S : ℕ → Bool) → (outcome G held t).end ≡ planned → (outcome G held' t).end ≡ blocked S → ⊥
exclude G L held held' t least weights zero_held weights' zero-held' S p q =
    (answered G L held' t least weights' zero-held').no_plan S q (outcome G held t).state.x
    ((answered G L held t least weights zero_held).plan p)
