-- The number of each refusal.
use Rattle.std.specs.Prelude.{ℕ}
use Rattle.refusals.specs.declared.Refusal.{Refusal}
use Rattle.refusals.specs.declared.Refusal.TheVariants.{FileTooLong, Shape, Year, RowNumber, AgeWithoutRow, Stake, TooManyMembers, BarNumber, Length, MemberRange, PermissionWord, NotAnAmount, Rates, NotAdmitted, SameMember, TotalPassed, CircleFull, NobodyAdmitted, NoPlanStands, DeathOpen, MemberDead, OtherDeath, ReceiverUnpaid, AllPaid}

-- the number by which files, lines and documents name a refusal
abbrev pub number_of : Refusal → ℕ
number_of FileTooLong = 1
number_of Shape = 2
number_of Year = 3
number_of RowNumber = 4
number_of AgeWithoutRow = 5
number_of Stake = 6
number_of TooManyMembers = 7
number_of BarNumber = 8
number_of Length = 9
number_of MemberRange = 10
number_of PermissionWord = 11
number_of NotAnAmount = 12
number_of Rates = 13
number_of NotAdmitted = 14
number_of SameMember = 15
number_of TotalPassed = 20
number_of CircleFull = 21
number_of NobodyAdmitted = 22
number_of NoPlanStands = 23
number_of DeathOpen = 24
number_of MemberDead = 25
number_of OtherDeath = 26
number_of ReceiverUnpaid = 27
number_of AllPaid = 28
