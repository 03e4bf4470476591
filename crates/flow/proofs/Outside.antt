-- A run touches nothing beyond its members: a step writes only at the places of its route, which lie below n.
use Rattle.std.proofs.Common.{◌≡◌, ℕ, zero, suc, ◌<◌, ◌≤◌, Bool, true, false, ◌⊎◌, List, [], ◌∷◌, sym, refl, ◌∙◌, subst, inl, inr, arith}
use Rattle.groups.specs.Group.{Group}
use Rattle.flow.specs.Flow.{Task, State}
use Rattle.flow.specs.Routes.{Hop, bump, push, amount, taken, augment, Route}
use Rattle.flow.specs.Runs.{begin}
use Rattle.flow.specs.Outcomes.{Outcome, step_held, way_to, run, outcome, WithinMembers}
use Rattle.flow.proofs.Fronts.{Outcome as Searched, route, closed, searched}
use Rattle.flow.proofs.HeldSteps.{taken_elsewhere, inside_last}
use Rattle.flow.proofs.Pushes.{bump_row, bump_column, Inside, inside_first}
use Rattle.flow.proofs.Steps.{route_inside}
use Rattle.flow.proofs.Unrolled.{run_searching, run_stepped, run_outgrown}

module _ (G : Group) (n : ℕ) where
  open G use {Element as E, neg}

  bump_outside : (x : ℕ → ℕ → E) (v c : ℕ) (d : E) (j i : ℕ) → v < n → c < n → (n ≤ j) ⊎ (n ≤ i) → bump G x v c d j i ≡ x j i
  bump_outside x v c d j i lv lc (inl l) = bump_row G x v c d j i (λ p. omega arith)
  bump_outside x v c d j i lv lc (inr l) = bump_column G x v c d j i (λ p. omega arith)

  push_outside : (d : E) (v : ℕ) (hs : List Hop) (z : ℕ) (x : ℕ → ℕ → E) → Inside G n v hs z
      → (j i : ℕ) → (n ≤ j) ⊎ (n ≤ i) → push G d v hs z x j i ≡ x j i
  push_outside d v [] z x q j i l = bump_outside x v z d j i q.0 q.1 l
  push_outside d v (h ∷ hs) z x q j i l =
      push_outside d h.to hs z (bump G (bump G x v h.over d) h.to h.over (neg d)) q.2 j i l
      ∙ bump_outside (bump G x v h.over d) h.to h.over (neg d) j i (inside_first G n h.to hs z q.2) q.1 l
      ∙ bump_outside x v h.over d j i q.0 q.1 l

  taken_outside : (f : ℕ → E) (v : ℕ) (d : E) (j : ℕ) → v < n → n ≤ j → taken G f v d j ≡ f j
  taken_outside f v d j lv l = taken_elsewhere G f v d j (λ p. omega arith)

module _ (G : Group) (t : Task G.Element) where
  -- a step along a route keeps within the members
  step_within : (s : State G.Element) (v : ℕ) (hs : List Hop) (z : ℕ) → Route G t s 0 v hs z
      → WithinMembers G t s → WithinMembers G t (augment G v hs z s)
  step_within s v hs z q h =
      let d = amount G s v hs z in
      let inside = route_inside G t s 0 v hs z q in
      record {
        x_giver = λ j i l. push_outside G t.n d v hs z s.x inside j i (inl l) ∙ h.x_giver j i l;
        x_receiver = λ j i l. push_outside G t.n d v hs z s.x inside j i (inr l) ∙ h.x_receiver j i l;
        g_beyond = λ j l. taken_outside G t.n s.g v d j (inside_first G t.n v hs z inside) l ∙ h.g_beyond j l;
        r_beyond = λ i l. taken_outside G t.n s.r z d i (inside_last G t.n v hs z inside) l ∙ h.r_beyond i l;
      }

  -- and so does the run from any state
  run_within : (held : G.Element → Bool) (b c : ℕ) (s : State G.Element) → WithinMembers G t s → WithinMembers G t (run G held t b c s).state
  unfolding run
  run_within held zero c s h = h
  run_within held (suc b) c s h = go (searched G t s) (run_within held b (suc c))
    where
      Kept : Outcome G.Element → Type 0
      Kept o = WithinMembers G t o.state

      go : Searched G t s → ((s' : State G.Element) → WithinMembers G t s' → Kept (run G held t b (suc c) s')) → Kept (run G held t (suc b) c s)
      go (closed e set) ih = subst Kept (sym (run_searching G held t b c s e)) h
      go (route z e wants way) ih = by (step_held G held s (way_to G t s z).first (way_to G t s z).hops z) refl
        where
          by : (a : Bool) → step_held G held s (way_to G t s z).first (way_to G t s z).hops z ≡ a → Kept (run G held t (suc b) c s)
          by true p = subst Kept (sym (run_stepped G held t b c s z e p)) (ih _ (step_within s (way_to G t s z).first (way_to G t s z).hops z way h))
          by false p = subst Kept (sym (run_outgrown G held t b c s z e p)) h

-- where the weights beyond the members are zero, so is all that the run leaves there
pub within_members : (G : Group) (held : G.Element → Bool) (t : Task G.Element) → ((j : ℕ) → t.n ≤ j → t.w j ≡ G.nil)
    → WithinMembers G t (outcome G held t).state
unfolding outcome
within_members G held t beyond =
    run_within G t held _ 0 (begin G t) (record { x_giver = λ j i l. refl; x_receiver = λ j i l. refl; g_beyond = beyond; r_beyond = beyond })
