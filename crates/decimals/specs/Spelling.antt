-- The text of a number, found from its end.
use Rattle.std.specs.Prelude.{◌≡◌, ℕ, ℤ, pos, negsuc, Bool, if◌then◌else◌, List, ◌∷◌, drop, decimal, refl, unsigned_abs}
use Rattle.std.specs.Fmt.{signed_decimal}
use Rattle.std.specs.Int.{is_negative}
use Rattle.std.proofs.Common.{sym, ltb, arith}
use Rattle.std.proofs.lemmas.Bool.{cond-false, le-ltb}
use Rattle.decimals.specs.declared.digits.Digits.{Digits}

-- the bytes found so far
abbrev pub found : Digits → List ℕ
found digits = drop digits.first digits.bytes

-- the digits of a number, after a minus where it is below zero
abbrev pub spelled : Bool → ℕ → List ℕ
spelled negative size = if negative then 45 ∷ decimal size else decimal size

-- the text of a number with a sign is spelled by its sign and its size
pub signed_spelled : (number : ℤ) → signed_decimal number ≡ spelled (is_negative number) (unsigned_abs number)
signed_spelled (pos n) = sym (cond-false (ltb n 0) (45 ∷ decimal n) (decimal n) (le-ltb n 0 (omega arith)))
signed_spelled (negsuc n) = refl
