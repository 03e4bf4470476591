-- A plan call's answer in numbers.
use Rattle.std.specs.Prelude.{◌≡◌, ℕ, List, IfOk, Some, None, Ok, Err, Result, MatchResult}
use Rattle.refusals.specs.declared.Refusal.{Refusal}
use Rattle.refusals.specs.Numbers.{number_of}
use Rattle.planner.specs.declared.answer.Answer.{Answer}
use Rattle.planner.specs.declared.answer.Answer.TheVariants.{Plan, Blocked, Outgrown}
use Rattle.planner.specs.Calls.{plan_refusal, Planned}
use Rattle.amounts.specs.Moneys.{money}
use Rattle.amounts.specs.declared.money.Money.{Money}
use Rattle.plan_c.specs.declared.told.Told.{Told}

-- what each answer and each refusal is told as
abbrev pub numbers : Result Answer Refusal → Told
numbers (Ok (Plan s)) = record { refusal = 0; kind = 0; steps = s; members = 0 }
numbers (Ok (Blocked s m)) = record { refusal = 0; kind = 1; steps = s; members = m }
numbers (Ok (Outgrown s)) = record { refusal = 0; kind = 2; steps = s; members = 0 }
numbers (Err e) = record { refusal = number_of e; kind = 0; steps = 0; members = 0 }

-- what is told is the answer of the plan call for money, which is refused or has planned as that call says; the tables
-- are first those found and then those left
pub record Called (n : ℕ) (weights : List Money) (words : List ℕ) (xs gs rs xs' gs' rs' : List Money) (told : Told) : Type 0 where
  pub answer : Result Answer Refusal
  pub is : told ≡ numbers answer
  pub refused : MatchResult answer (λ a. plan_refusal money n weights words xs gs rs ≡ None)
      (λ e. (plan_refusal money n weights words xs gs rs ≡ Some e) × (xs' ≡ xs) × (gs' ≡ gs) × (rs' ≡ rs))
  pub planned : IfOk answer (λ a. Planned money n weights words a xs' gs' rs')
