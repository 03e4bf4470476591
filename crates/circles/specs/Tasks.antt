-- What the members of a circle pose to the planner: their weights, and who may receive from whom.
use Rattle.std.specs.Prelude.{ℕ, ◌*◌, Bool, not, ◌&&◌, ℤ, pos, ◌*ℤ◌, ◌==◌}
use Rattle.groups.specs.Groups.{whole, Pair}
use Rattle.amounts.specs.declared.money.Money.{Money}
use Rattle.amounts.specs.declared.drift.Drift.{Drift}
use Rattle.flow.specs.Flow.{Task}
use Rattle.circles.specs.declared.member.Member.{Member}
use Rattle.circles.specs.declared.members.Members.{Members}
use Rattle.circles.specs.Members.{member_at, is_barred}

-- the weight of a member: its balance times its odds
abbrev pub weight_in : Member → ℕ
weight_in m = m.balance * m.rates.odds

-- the yearly change of its weight: its balance times the yearly change of its odds
abbrev pub change_in : Member → ℤ
change_in m = pos m.balance *ℤ m.rates.change

-- a member's weight in money
abbrev pub money_of : Member → Money
money_of m = record { 0 = weight_in m }

-- a member's weight with its yearly change
abbrev pub drift_of : Member → Drift
drift_of m = record { weight = weight_in m; change = change_in m }

-- no weight, and no change
abbrev pub no_drift : Drift
no_drift = record { weight = 0; change = pos 0 }

-- receiver i may receive from giver j: two different living members without a bar
abbrev pub permits : Members → ℕ → ℕ → Bool
permits ms j i = ((member_at ms j).alive && (member_at ms i).alive) && (not (j == i) && not (is_barred ms j i))

-- all admitted, with these weights, and the pairs that are permitted
abbrev pub posed_by : {E : Type 0} → Members → (ℕ → E) → Task E
posed_by ms w = record { n = ms.count; w = w; permitted = permits ms }

-- what the members pose in money
abbrev pub money_task : Members → Task ℤ
money_task ms = posed_by ms (λ j. pos (weight_in (member_at ms j)))

-- what they pose in weights with their yearly changes
abbrev pub drift_task : Members → Task (Pair whole whole)
drift_task ms = posed_by ms (λ j. record { upper = pos (weight_in (member_at ms j)); lower = change_in (member_at ms j) })
