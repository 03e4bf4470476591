-- What holds of every circle.
use Rattle.std.specs.Prelude.{◌≡◌, ℕ, ◌<◌, ◌≤◌, Bool, true, false, not, ◌&&◌, length, pos, sum_by, nat_lt, slice_index_or}
use Rattle.groups.specs.Groups.{whole}
use Rattle.groups.specs.Sums.{sum_below}
use Rattle.amounts.specs.Moneys.{money}
use Rattle.planner.specs.Tables.{table}
use Rattle.circles.specs.declared.members.Members.{Members}
use Rattle.circles.specs.declared.state.State.{State}
use Rattle.circles.specs.Members.{member_at}
use Rattle.circles.specs.Calls.{nothing, rates_fit}
use Rattle.circles.specs.Tasks.{weight_in, permits}

-- what holds of the members of every circle
pub record Manned (ms : Members) : Type 0 where
  -- the table has its length, and there are at most 64 members
  pub size : length ms.list ≡ 64
  pub room : ms.count ≤ 64
  -- all of them have at most 10^12 cents together
  pub most : sum_by (λ m. m.balance) ms.list ≤ 1000000000000
  -- the rates of every member are in range
  pub rated : (k : ℕ) → k < ms.count → rates_fit (member_at ms k).rates ≡ true
  -- the dead, and places that nobody has, have no cents
  pub settled : (k : ℕ) → (member_at ms k).alive ≡ false → (member_at ms k).balance ≡ 0
  -- nobody lives beyond the members
  pub bounded : (k : ℕ) → ms.count ≤ k → (member_at ms k).alive ≡ false

-- a plan stands, and j is one of the members
abbrev pub plan_for : State → ℕ → Bool
plan_for s j = s.standing && nat_lt j s.members.count

-- a plan stands, and the pair of members is not permitted
abbrev pub forbids : State → ℕ → ℕ → Bool
forbids s j i = (plan_for s j && plan_for s i) && not (permits s.members j i)

-- what holds of every circle
pub record Sound (s : State) : Type 0 where
  pub manned : Manned s.members
  -- the cents of all members are the stakes accepted
  pub stakes : s.total ≡ sum_by (λ m. m.balance) s.members.list
  -- the table of transfers has its length
  pub shaped : length s.transfers ≡ 4096
  -- while no plan stands every transfer is zero
  pub void : (p : ℕ) → s.standing ≡ false → (slice_index_or s.transfers p nothing).0 ≡ 0
  -- by a standing plan each member forfeits its weight
  pub forfeits : (j : ℕ) → plan_for s j ≡ true → sum_below whole s.members.count (λ i. table money s.transfers j i) ≡ pos (weight_in (member_at s.members j))
  -- and gains its weight
  pub gains : (i : ℕ) → plan_for s i ≡ true → sum_below whole s.members.count (λ j. table money s.transfers j i) ≡ pos (weight_in (member_at s.members i))
  -- and where a pair is not permitted the transfer is zero
  pub permitted : (j i : ℕ) → forbids s j i ≡ true → table money s.transfers j i ≡ pos 0
