-- Money keeps the laws of a kind.
use Rattle.std.specs.Prelude.{◌≡◌, ℕ, ◌^◌, ◌<◌, ◌≤◌, true, length, ℤ, pos, negsuc, decimal, nat_le, refl}
use Rattle.std.proofs.Common.{arith}
use Rattle.std.proofs.lemmas.Fmt.{decimal_nonempty, length-decimal-le}
use Rattle.std.proofs.lemmas.Int.{ints}
use Rattle.std.proofs.lemmas.Bool.{and_from, and_parts, leb-true, le-leb}
use Rattle.groups.proofs.WholeOrder.{whole_ordered}
use Rattle.amounts.specs.declared.money.Money.{Money}
use Rattle.amounts.specs.Kind.{Lawful}
use Rattle.amounts.specs.Moneys.{money}

-- a value stands for an element that is held
value_held : (m : Money) → money.value m ≡ true → money.held (money.element m) ≡ true
value_held m h = and_from (nat_le 0 m.0) (nat_le m.0 1000000000000000000) (le-leb 0 m.0 (omega arith)) h

-- what is held is some value
held_value : (z : ℤ) → money.held z ≡ true → (m : Money) × (money.value m ≡ true) × (money.element m ≡ z)
held_value (pos n) h = (record { 0 = n }, (and_parts (nat_le 0 n) (nat_le n 1000000000000000000) h).1, refl)
held_value (negsuc n) h = grind (arith, ints)

-- a value fits the machine's numbers
small : (m : Money) → money.value m ≡ true → m.0 < 2 ^ 64
small m h = omega (arith, leb-true m.0 1000000000000000000 h)

-- what the kind money has to show
pub money_lawful : Lawful money
money_lawful =
    record {
      ordered = whole_ordered;
      value_held = value_held;
      held_value = held_value;
      nil_held = refl;
      text_some = λ m h. decimal_nonempty m.0 (small m h);
      text_most = λ m h. short (length (decimal m.0)) (length-decimal-le 20 m.0 (omega arith) (below m h) (small m h));
    }
  where
    short : (n : ℕ) → n ≤ 20 → n ≤ 40
    short n h = omega arith

    below : (m : Money) → money.value m ≡ true → m.0 < 10 ^ 20
    below m h = omega (arith, small m h)
