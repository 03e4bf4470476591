-- On a shortest route every link is written once, so the order of writing does not matter.
use Rattle.std.proofs.Common.{◌≡◌, ℕ, suc, Bool, true, false, ◌&&◌, List, [], ◌∷◌, sym, refl, ap, ◌∙◌, ap₂, true≢false, arith}
use Rattle.groups.specs.Group.{Group}
use Rattle.groups.specs.Sums.{minus}
use Rattle.flow.specs.Flow.{Task, State}
use Rattle.flow.specs.Levels.{within}
use Rattle.flow.specs.Routes.{Hop, push, held_along, Route}
use Rattle.flow.proofs.Pushes.{bump_row}
use Rattle.flow.proofs.Steps.{route_first, push_sooner}
use Rattle.planner.specs.Ways.{held_back}

turned : (a b c : Bool) → (a && (b && c)) ≡ (c && (b && a))
turned true true true = refl
turned true true false = refl
turned true false true = refl
turned true false false = refl
turned false true true = refl
turned false true false = refl
turned false false true = refl
turned false false false = refl

module _ (G : Group) (t : Task G.Element) (s : State G.Element) (held : G.Element → Bool) (d : G.Element) where
  pub held_back_along : (m v : ℕ) (hs : List Hop) (z : ℕ) → Route G t s m v hs z → held_back G held d v hs z s.x ≡ held_along G held d v hs z s.x
  held_back_along m v [] z q = refl
  held_back_along m v (h ∷ hs) z q =
      ap₂ (λ a b. a && b) (held_back_along (suc m) h.to hs z q.2)
      (ap₂ (λ a b. held (minus G a d) && held (G.plus b d)) (untouched h.to)
      (bump_row G (push G d h.to hs z s.x) h.to h.over (G.neg d) v h.over other ∙ untouched v))
      ∙ turned (held_along G held d h.to hs z s.x) (held (minus G (s.x h.to h.over) d)) (held (G.plus (s.x v h.over) d))
    where
      untouched : (a : ℕ) → push G d h.to hs z s.x a h.over ≡ s.x a h.over
      untouched a = push_sooner G t s d (suc m) h.to hs z s.x q.2 a h.over m (omega arith) q.0.onto.now

      other : v ≡ h.to → ⊥
      other e = true≢false (sym q.0.from.now ∙ ap (within G t s m) e ∙ (route_first G t s (suc m) h.to hs z q.2).before m (omega arith))
