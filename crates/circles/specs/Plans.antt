-- The plan of a circle: what its call answers and leaves, and what that means.
use Rattle.std.specs.Prelude.{◌≡◌, ℕ, ◌-◌, ◌/◌, ◌%◌, ◌≤◌, Bool, true, false, cond, List, map, ℤ, pos, ◌≢◌, unsigned_abs}
use Rattle.std.specs.List.{range_with_len}
use Rattle.words.specs.Words.{bit}
use Rattle.groups.specs.Groups.{whole}
use Rattle.groups.specs.Sums.{Lt}
use Rattle.amounts.specs.Moneys.{money}
use Rattle.amounts.specs.declared.money.Money.{Money}
use Rattle.flow.specs.Flow.{Fair, near, weight_of}
use Rattle.flow.specs.Outcomes.{End, planned as planned_end, blocked, outgrown, Outcome, limit}
use Rattle.planner.specs.declared.answer.Answer.{Answer}
use Rattle.planner.specs.declared.answer.Answer.TheVariants.{Plan, Blocked, Outgrown}
use Rattle.planner.specs.Answers.{answer_by, steps_of, outcome_of}
use Rattle.planner.specs.Tables.{table}
use Rattle.circles.specs.declared.members.Members.{Members}
use Rattle.circles.specs.declared.state.State.{State}
use Rattle.circles.specs.Calls.{no_transfers, voided}
use Rattle.circles.specs.Tasks.{money_task}

-- a list of n entries, each by its place
unfoldable pub listed : {V : Type 0} → ℕ → (ℕ → V) → List V
listed n f = map f (range_with_len 0 n)

-- a table of transfers, that from giver j to receiver i at place 64 j + i
abbrev pub table_of : (ℕ → ℕ → ℤ) → List Money
table_of x = listed 4096 (λ p. record { 0 = unsigned_abs (x (p / 64) (p % 64)) })

-- the run of the general plan call, in money, on what the members pose
abbrev pub run_of : Members → Outcome ℤ
run_of ms = outcome_of money (money_task ms)

-- a run that ends with a plan
abbrev pub is_plan : End → Bool
is_plan planned_end = true
is_plan (blocked S) = false
is_plan outgrown = false

-- the answer of the plan call
abbrev pub plan_answer : Members → Answer
plan_answer ms = answer_by (run_of ms).end (run_of ms).steps

-- a circle with a run's transfers in its table, by the answer: a plan stands, and without one no plan stands
abbrev pub settled : State → Answer → State
settled s (Plan steps) = record { number = s.number; members = s.members; total = s.total; standing = true; transfers = s.transfers }
settled s (Blocked steps members) = voided s s.members s.total
settled s (Outgrown steps) = voided s s.members s.total

-- after a plan call: a plan stands, with the transfers of the run; without one no plan stands
abbrev pub planned : State → State
planned s =
    record {
      number = s.number;
      members = s.members;
      total = s.total;
      standing = is_plan (run_of s.members).end;
      transfers = cond (is_plan (run_of s.members).end) (table_of (run_of s.members).state.x) no_transfers;
    }

-- the transfers that a circle tells, by giver and receiver
abbrev pub told_by : State → ℕ → ℕ → ℤ
told_by s = table money s.transfers

-- what the answer of a plan call means for the members, with their balances, odds and bars of the moment
pub record PlanMeans (ms : Members) (a : Answer) (after : State) : Type 0 where
  -- no more steps than twice the members, and once less than the members for each permitted pair
  pub few : steps_of a ≤ limit (money_task ms)
  -- plan: the transfers that the circle tells from now on are a fair plan
  pub fair : (steps : ℕ) → a ≡ Plan steps → Fair whole (money_task ms) (told_by after)
  -- where there is a fair plan, the answer is plan
  pub complete : (y : ℕ → ℕ → ℤ) → Fair whole (money_task ms) y → (steps : ℕ) × (a ≡ Plan steps)
  -- blocked: the named members together weigh more than all who may receive from any of them, and there is no fair plan
  pub outweighs : (steps members : ℕ) → a ≡ Blocked steps members
      → Lt whole (weight_of whole (money_task ms) (near (money_task ms) (bit members))) (weight_of whole (money_task ms) (bit members))
  pub no_plan : (steps members : ℕ) → a ≡ Blocked steps members → (y : ℕ → ℕ → ℤ) → Fair whole (money_task ms) y → ⊥
  -- there is no third answer
  pub never_outgrown : (steps : ℕ) → a ≢ Outgrown steps

-- what a transfer that is told means
pub record TransferMeans (s : State) (giver receiver : ℕ) (amount : Money) : Type 0 where
  -- it is one of the transfers that the circle tells, which a standing plan makes a fair plan: for each member they add up to
  -- its balance times its odds, both ways
  pub one : pos amount.0 ≡ told_by s (giver - 1) (receiver - 1)
  pub fair : s.standing ≡ true → Fair whole (money_task s.members) (told_by s)
  -- while no plan stands it is zero
  pub void : s.standing ≡ false → amount.0 ≡ 0
