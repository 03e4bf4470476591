-- The outlook of a circle: what its call answers and leaves, and what that says of the time just after its date.
use Rattle.std.specs.Prelude.{◌≡◌, ℕ, ◌≤◌, ℤ, pos, ◌+ℤ◌, ◌*ℤ◌}
use Rattle.words.specs.Words.{bit}
use Rattle.groups.specs.Groups.{whole, Pair}
use Rattle.groups.specs.Sums.{Lt}
use Rattle.flow.specs.Flow.{Task, Fair, near, weight_of}
use Rattle.planner.specs.declared.answer.Answer.{Answer}
use Rattle.planner.specs.declared.answer.Answer.TheVariants.{Plan, Blocked}
use Rattle.circles.specs.declared.members.Members.{Members}
use Rattle.circles.specs.Members.{member_at}
use Rattle.circles.specs.Tasks.{weight_in, change_in, posed_by}

-- something holds for all numbers from some number on
abbrev pub Eventually : (ℕ → Type 0) → Type 0
Eventually P = (from : ℕ) × ((m : ℕ) → from ≤ m → P m)

-- a weight with its yearly change after one m-th of a year, in m-ths: m times the weight, and the change
abbrev pub after : ℕ → Pair whole whole → ℤ
after m e = (pos m *ℤ e.upper) +ℤ e.lower

-- what the members pose one m-th of a year after the circle's date, in m-ths: m times each weight, and its yearly change
abbrev pub soon_task : Members → ℕ → Task ℤ
soon_task ms m = posed_by ms (λ j. (pos m *ℤ pos (weight_in (member_at ms j))) +ℤ change_in (member_at ms j))

-- what an outlook says, with the transfers that it leaves
pub record Foretells (ms : Members) (a : Answer) (x : ℕ → ℕ → Pair whole whole) : Type 0 where
  -- plan: from some m on there is a fair plan one m-th of a year after the date, namely these transfers by then
  pub stays : (steps : ℕ) → a ≡ Plan steps → Eventually (λ m. Fair whole (soon_task ms m) (λ j i. after m (x j i)))
  -- blocked: from some m on the named members then together weigh more than all who may receive from any of them
  pub outweighs : (steps members : ℕ) → a ≡ Blocked steps members
      → Eventually (λ m. Lt whole (weight_of whole (soon_task ms m) (near (soon_task ms m) (bit members))) (weight_of whole (soon_task ms m) (bit members)))
  -- and there is no fair plan
  pub fails : (steps members : ℕ) → a ≡ Blocked steps members → Eventually (λ m. (y : ℕ → ℕ → ℤ) → Fair whole (soon_task ms m) y → ⊥)
