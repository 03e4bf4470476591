-- The text of each refusal.
use Rattle.std.specs.Prelude.{ℕ, List, codes}
use Rattle.refusals.specs.declared.Refusal.{Refusal}
use Rattle.refusals.specs.declared.Refusal.TheVariants.{FileTooLong, Shape, Year, RowNumber, AgeWithoutRow, Stake, TooManyMembers, BarNumber, Length, MemberRange, PermissionWord, NotAnAmount, Rates, NotAdmitted, SameMember, TotalPassed, CircleFull, NobodyAdmitted, NoPlanStands, DeathOpen, MemberDead, OtherDeath, ReceiverUnpaid, AllPaid}

-- what a printed refusal says
abbrev pub text_of : Refusal → List ℕ
text_of FileTooLong = codes "a file of more than 32,768 bytes"
text_of Shape = codes "a file that is not well shaped"
text_of Year = codes "a base or valuation year out of range"
text_of RowNumber = codes "an age, odds or fall of a row out of range or out of order"
text_of AgeWithoutRow = codes "an age for which the table has no row"
text_of Stake = codes "a stake out of range"
text_of TooManyMembers = codes "a file with more than 64 members"
text_of BarNumber = codes "a member number of a bar line out of range or out of order"
text_of Length = codes "a table or buffer of another length than asked for"
text_of MemberRange = codes "a number of members, or a member of a line, outside 1 to 64"
text_of PermissionWord = codes "a permission word that permits its own giver or somebody beyond the last member"
text_of NotAnAmount = codes "a number that is no value of its kind of amount, or a weight below zero"
text_of Rates = codes "odds, or odds plus change, out of range"
text_of NotAdmitted = codes "a member number that was not admitted"
text_of SameMember = codes "one member as both giver and receiver of a bar"
text_of TotalPassed = codes "a stake with which the total of all stakes would pass its limit"
text_of CircleFull = codes "a circle that has all its 64 members"
text_of NobodyAdmitted = codes "a circle without members"
text_of NoPlanStands = codes "a death in a circle without a standing plan"
text_of DeathOpen = codes "a call that has to wait for the closing of an open death"
text_of MemberDead = codes "a member who is dead"
text_of OtherDeath = codes "an open death that is not the circle's"
text_of ReceiverUnpaid = codes "a closing before every receiver is paid"
text_of AllPaid = codes "a payment after every receiver is paid"
