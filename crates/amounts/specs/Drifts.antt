-- Drift: a weight with its yearly change.
use Rattle.std.specs.Prelude.{Bool, ◌&&◌, ◌∷◌, ◌++◌, pos, neg_ℤ, decimal, int_le}
use Rattle.std.specs.Fmt.{signed_decimal}
use Rattle.groups.specs.Groups.{whole, Pair, pairs}
use Rattle.amounts.specs.Kind.{Kind}
use Rattle.amounts.specs.declared.drift.Drift.{Drift}

-- weights from 0 to 10^18 are held, with changes from -10^18 to 10^18
abbrev pub held_drift : Pair whole whole → Bool
held_drift e =
    (int_le (pos 0) e.upper && int_le e.upper (pos 1000000000000000000))
    && (int_le (neg_ℤ (pos 1000000000000000000)) e.lower && int_le e.lower (pos 1000000000000000000))

-- the pair that a drift stands for
abbrev pub drift_pair : Drift → Pair whole whole
drift_pair d = record { upper = pos d.weight; lower = d.change }

-- drift stands for pairs (weight, change), added part by part and compared by weight first; it is printed as the
-- weight, a space and the change, and has the letter d
abbrev pub drift : Kind Drift
drift =
    record {
      group = pairs whole whole;
      value = λ d. held_drift (drift_pair d);
      element = drift_pair;
      held = held_drift;
      text = λ d. decimal d.weight ++ (32 ∷ signed_decimal d.change);
      letter = 100;
    }

-- a weight of one, without a change
abbrev pub one : Drift
one = record { weight = 1; change = pos 0 }
