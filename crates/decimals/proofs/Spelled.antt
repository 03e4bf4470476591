-- One byte more before those found.
use Rattle.std.proofs.Common.{◌≡◌, ℕ, ◌+◌, ◌-◌, ◌/◌, ◌%◌, ◌^◌, ◌<◌, ◌≤◌, List, [], ◌∷◌, ◌++◌, length, drop, take, set, decimal, sym, ap, ◌∙◌, append_assoc, arith, length-append, length-drop}
use Rattle.std.proofs.lemmas.Fmt.{decimal_step, decimal_digit, decimal_nonempty, length-decimal-le}
use Rattle.std.proofs.lemmas.List.{drop-set, take_all}
use Rattle.decimals.specs.declared.digits.Digits.{Digits}
use Rattle.decimals.specs.Spelling.{found}

-- what is written just before a part stands before it
pub stored : (xs : List ℕ) (i y : ℕ) → 0 < i → i ≤ length xs → drop (i - 1) (set xs (i - 1) y) ≡ y ∷ drop i xs
stored xs i y a h =
    let back : i - 1 + 1 ≡ i = omega arith in
    drop-set xs (i - 1) y (omega arith) ∙ ap (λ k. y ∷ drop k xs) back

-- the bytes from a place to the end
pub to_the_end : (xs : List ℕ) (i : ℕ) → take (length xs - i) (drop i xs) ≡ drop i xs
to_the_end xs i = take_all (length xs - i) (drop i xs) (omega (arith, length-drop i xs))

-- of the digits of n, those of m are still to be found, and stand before the text; d is the last of them
module _ (n m d : ℕ) (text more : List ℕ) where
  pub one_more : decimal n ≡ decimal m ++ text → m < 2 ^ 64 → 10 ≤ m → d ≡ 48 + m % 10 → more ≡ d ∷ text → decimal n ≡ decimal (m / 10) ++ more
  one_more b small some e f =
      b ∙ ap (λ t. t ++ text) (decimal_step m some small) ∙ append_assoc (decimal (m / 10)) ((48 + m % 10) ∷ []) text
      ∙ ap (λ t. decimal (m / 10) ++ t) (sym (f ∙ ap (λ c. c ∷ text) e))

  pub the_last : more ≡ d ∷ text → d ≡ 48 + m % 10 → decimal n ≡ decimal m ++ text → m < 10 → more ≡ decimal n
  the_last f e b few = f ∙ sym (b ∙ ap (λ t. t ++ text) (decimal_digit m few) ∙ ap (λ c. c ∷ text) alone)
    where
      alone : 48 + m ≡ d
      alone = omega (arith, e)

-- there is room for one more
pub room : (n m : ℕ) (d : Digits) → n < 2 ^ 64 → m < 2 ^ 64 → decimal n ≡ decimal m ++ found d → 0 < d.first
room n m d h small b =
    omega
    (arith, ap length b, length-append (decimal m) (found d), decimal_nonempty m small, length-decimal-le 20 n (omega arith) (omega arith) h, length-drop d.first d.bytes, d.long)

-- a minus has room before all digits
pub minus_room : (n : ℕ) (d : Digits) → n < 2 ^ 64 → found d ≡ decimal n → 0 < d.first
minus_room n d h e = omega (arith, ap length e, length-decimal-le 20 n (omega arith) (omega arith) h, length-drop d.first d.bytes, d.long)
