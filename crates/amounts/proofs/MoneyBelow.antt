-- Money is closed below.
use Rattle.std.proofs.Common.{arith}
use Rattle.std.proofs.lemmas.Int.{ints}
use Rattle.amounts.specs.Kind.{ClosedBelow}
use Rattle.amounts.specs.Moneys.{money}

pub money_closed_below : ClosedBelow money
money_closed_below =
    record {
      upward = λ e top h low high. grind (arith, ints);
      downward = λ e bottom h low high. grind (arith, ints);
    }
