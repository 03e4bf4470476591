use Rattle.std.proofs.Common.{◌≡◌, ℕ, ◌<◌, true}
use Rattle.planner.specs.Calls.{all_first}
use Rattle.planner.specs.Tables.{row}
use Rattle.planner.proofs.call.clear.Given as goal

abbrev pub invariant-loop-amount : goal.invariant-loop-amount
invariant-loop-amount g l =
    (all_first g.K.Amount.kind.value l.amount-index l.amount-items ≡ true)
    × ((a : ℕ) → a < l.amount-index → row g.K.Amount.kind l.amount-items a ≡ g.K.Amount.kind.group.nil)
