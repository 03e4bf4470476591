-- What the test says that nobody has anything left to give.
use Rattle.std.proofs.Common.{◌≡◌, ℕ, ◌<◌, Bool, true, false, not, sym, refl, ap, ◌∙◌, true≢false}
use Rattle.std.proofs.lemmas.Bool.{not-true, not-false}
use Rattle.groups.specs.Group.{Group}
use Rattle.groups.specs.Sums.{above}
use Rattle.flow.specs.Counts.{any_below}
use Rattle.flow.specs.Flow.{Task, State}
use Rattle.flow.specs.Outcomes.{settled}
use Rattle.flow.proofs.Counting.{any_found, any_from}

module _ (G : Group) (t : Task G.Element) (s : State G.Element) where
  pub settled_all : settled G t s ≡ true → (j : ℕ) → j < t.n → above G (s.g j) ≡ false
  unfolding settled
  settled_all e j l = go (above G (s.g j)) refl
    where
      go : (b : Bool) → above G (s.g j) ≡ b → above G (s.g j) ≡ false
      go true w =
          absurd (true≢false (sym (any_from t.n (λ i. above G (s.g i)) j l w) ∙ not-true (any_below t.n (λ i. above G (s.g i))) e))
      go false w = w

  pub unsettled_some : settled G t s ≡ false → (j : ℕ) × (j < t.n) × (above G (s.g j) ≡ true)
  unfolding settled
  unsettled_some e = any_found t.n (λ j. above G (s.g j)) (not-false (any_below t.n (λ j. above G (s.g j))) e)

  pub settled_from : ((j : ℕ) → j < t.n → above G (s.g j) ≡ false) → settled G t s ≡ true
  settled_from none = go (settled G t s) refl
    where
      go : (b : Bool) → settled G t s ≡ b → settled G t s ≡ true
      go true e = e
      go false e = let f = unsettled_some e in absurd (true≢false (sym f.2 ∙ none f.0 f.1))

  pub unsettled_from : (j : ℕ) → j < t.n → above G (s.g j) ≡ true → settled G t s ≡ false
  unfolding settled
  unsettled_from j l e = ap not (any_from t.n (λ i. above G (s.g i)) j l e)
