-- What each call of a circle answers, and what it leaves. Calls number members from 1, tables from 0.
use Rattle.std.specs.Prelude.{ℕ, ◌+◌, ◌-◌, ◌*◌, Bool, false, not, ◌&&◌, List, [], ◌∷◌, replicate, pos, ◌+ℤ◌, Option, ◌==◌, int_le, nat_le, nat_lt, slice_index_or}
use Rattle.refusals.specs.declared.Refusal.{Refusal}
use Rattle.refusals.specs.declared.Refusal.TheVariants.{Length, Stake, Rates as RatesRefused, NotAdmitted, SameMember, TotalPassed, CircleFull, NobodyAdmitted}
use Rattle.refusals.specs.Judged.{first_of}
use Rattle.tables.specs.declared.row.Rates.{Rates}
use Rattle.tables.specs.Ranges.{odds_fit}
use Rattle.amounts.specs.declared.money.Money.{Money}
use Rattle.circles.specs.declared.members.Members.{Members}
use Rattle.circles.specs.declared.state.State.{State}
use Rattle.circles.specs.Members.{nobody, member_at, newcomer, joined, bar_put}

-- no money
abbrev pub nothing : Money
nothing = record { 0 = 0 }

-- the table of transfers while no plan stands
abbrev pub no_transfers : List Money
no_transfers = replicate 4096 nothing

-- a circle as it opens
abbrev pub opened : ℕ → State
opened number = record { number = number; members = nobody; total = 0; standing = false; transfers = no_transfers }

-- a circle with other members and another total, and no plan
abbrev pub voided : State → Members → ℕ → State
voided s members total = record { number = s.number; members = members; total = total; standing = false; transfers = no_transfers }

-- a stake is 1 to 10^12 cents
abbrev pub stake_fits : ℕ → Bool
stake_fits stake = nat_le 1 stake && nat_le stake 1000000000000

-- odds, and odds plus change, are 1 to 999,999
abbrev pub rates_fit : Rates → Bool
rates_fit r = odds_fit r.odds && (int_le (pos 1) (pos r.odds +ℤ r.change) && int_le (pos r.odds +ℤ r.change) (pos 999999))

-- why an admission is refused, in this order: the stake, the rates, a total that would pass 10^12, 64 members
abbrev pub admit_refusal : ℕ → ℕ → ℕ → Rates → Option Refusal
admit_refusal total count stake rates =
    first_of
    ((not (stake_fits stake), Stake)
    ∷ (not (rates_fit rates), RatesRefused)
    ∷ (nat_lt 1000000000000 (total + stake), TotalPassed)
    ∷ (nat_le 64 count, CircleFull)
    ∷ [])

-- after an admission: one member more, and no plan
abbrev pub admitted : State → ℕ → Rates → State
admitted s stake rates = voided s (joined s.members (newcomer stake rates)) (s.total + stake)

-- a number that a member has
abbrev pub is_member : ℕ → ℕ → Bool
is_member count member = nat_le 1 member && nat_le member count

-- why a bar or a lift is refused, in this order: a number that nobody has, giver and receiver the same
abbrev pub bar_refusal : ℕ → ℕ → ℕ → Option Refusal
bar_refusal count giver receiver =
    first_of ((not (is_member count giver && is_member count receiver), NotAdmitted) ∷ ((giver == receiver), SameMember) ∷ [])

-- after a bar, or after a lift: the pair is barred or not, and no plan
abbrev pub barred : State → ℕ → ℕ → Bool → State
barred s giver receiver on = voided s (bar_put s.members (giver - 1) (receiver - 1) on) s.total

-- why a plan is refused: nobody is admitted
abbrev pub plan_refusal : ℕ → Option Refusal
plan_refusal count = first_of (((count == 0), NobodyAdmitted) ∷ [])

-- why an outlook is refused, in this order: a table of another length, nobody admitted
abbrev pub outlook_refusal : ℕ → ℕ → ℕ → ℕ → Option Refusal
outlook_refusal count transfers gives gets =
    first_of ((not (transfers == 4096 && (gives == 64 && gets == 64)), Length) ∷ ((count == 0), NobodyAdmitted) ∷ [])

-- why a balance is not told: a number that nobody has
abbrev pub balance_refusal : ℕ → ℕ → Option Refusal
balance_refusal count member = first_of ((not (is_member count member), NotAdmitted) ∷ [])

-- the balance told
abbrev pub balance_told : State → ℕ → ℕ
balance_told s member = (member_at s.members (member - 1)).balance

-- why a transfer is not told: a number that nobody has
abbrev pub transfer_refusal : ℕ → ℕ → ℕ → Option Refusal
transfer_refusal count giver receiver = first_of ((not (is_member count giver && is_member count receiver), NotAdmitted) ∷ [])

-- the transfer told
abbrev pub transfer_told : State → ℕ → ℕ → Money
transfer_told s giver receiver = slice_index_or s.transfers (64 * (giver - 1) + (receiver - 1)) nothing
