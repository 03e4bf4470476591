-- The member table: a record for each member in the order of admission, counted from 0.
use Rattle.std.specs.Prelude.{ℕ, ◌+◌, Bool, true, false, replicate, pos, slice_index_or, slice_set}
use Rattle.words.specs.Words.{bit, marked}
use Rattle.tables.specs.declared.row.Rates.{Rates}
use Rattle.circles.specs.declared.member.Member.{Member}
use Rattle.circles.specs.declared.members.Members.{Members}

-- what stands in a place that nobody has
abbrev pub blank : Member
blank = record { balance = 0; rates = record { odds = 0; change = pos 0 }; alive = false; barred = 0 }

-- a table without members
abbrev pub nobody : Members
nobody = record { list = replicate 64 blank; count = 0 }

-- the record of member k
abbrev pub member_at : Members → ℕ → Member
member_at ms k = slice_index_or ms.list k blank

-- a member as it is admitted: it has its stake, and nobody is barred
abbrev pub newcomer : ℕ → Rates → Member
newcomer stake rates = record { balance = stake; rates = rates; alive = true; barred = 0 }

-- the table with one member more
abbrev pub joined : Members → Member → Members
joined ms m = record { list = slice_set ms.list ms.count m; count = ms.count + 1 }

-- receiver i may not gain by the death of member j
abbrev pub is_barred : Members → ℕ → ℕ → Bool
is_barred ms j i = bit (member_at ms j).barred i

-- a record with a bar on receiver i, or without one
abbrev pub with_bar : Member → ℕ → Bool → Member
with_bar m i on = record { balance = m.balance; rates = m.rates; alive = m.alive; barred = marked m.barred i on }

-- the table with a bar on the pair of giver j and receiver i, or without one
abbrev pub bar_put : Members → ℕ → ℕ → Bool → Members
bar_put ms j i on = record { list = slice_set ms.list j (with_bar (member_at ms j) i on); count = ms.count }
