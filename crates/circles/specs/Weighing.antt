-- What a member weighs in a kind of amount.
use Rattle.std.specs.Prelude.{◌≡◌, ◌≤◌, true}
use Rattle.amounts.specs.Kind.{Kind}
use Rattle.planner.specs.Calls.{weight_fits}
use Rattle.circles.specs.declared.member.Member.{Member}
use Rattle.circles.specs.Calls.{rates_fit}

-- a member who can be weighed has at most 10^12 cents, and rates in range
pub record Weighable (m : Member) : Type 0 where
  pub most : m.balance ≤ 1000000000000
  pub rated : rates_fit m.rates ≡ true

-- weights of members that a plan may be asked with
pub record Weighing {V : Type 0} (k : Kind V) (weight : Member → V) : Type 0 where
  -- they are weights that the planner takes
  pub fits : (m : Member) → Weighable m → weight_fits k (weight m) ≡ true
  -- who has no cents weighs nothing
  pub none : (m : Member) → m.balance ≡ 0 → k.element (weight m) ≡ k.group.nil
