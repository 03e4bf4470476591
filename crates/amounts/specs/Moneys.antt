-- Money: whole numbers, of which 0 to 10^18 are held.
use Rattle.std.specs.Prelude.{◌&&◌, pos, decimal, int_le, nat_le}
use Rattle.groups.specs.Groups.{whole}
use Rattle.amounts.specs.Kind.{Kind}
use Rattle.amounts.specs.declared.money.Money.{Money}

-- money stands for whole numbers, is printed in decimal digits with no leading zero, and has the letter m
abbrev pub money : Kind Money
money =
    record {
      group = whole;
      value = λ m. nat_le m.0 1000000000000000000;
      element = λ m. pos m.0;
      held = λ z. int_le (pos 0) z && int_le z (pos 1000000000000000000);
      text = λ m. decimal m.0;
      letter = 109;
    }
