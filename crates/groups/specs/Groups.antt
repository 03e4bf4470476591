-- The whole numbers, and pairs over two groups.
use Rattle.std.specs.Prelude.{Bool, true, cond, ◌&&◌, ℤ, pos, ◌+ℤ◌, neg_ℤ, int_le}
use Rattle.groups.specs.Group.{Group}

-- the whole numbers, with their addition and order
abbrev pub whole : Group
whole = record { Element = ℤ; plus = ◌+ℤ◌; nil = pos 0; neg = neg_ℤ; le = int_le }

-- a pair of an upper and a lower part
pub record Pair (U V : Group) : Type 0 where
  pub upper : U.Element
  pub lower : V.Element

-- at most: the upper part is below, or it is equal and the lower part is at most
abbrev pub le_pair : (U V : Group) → Pair U V → Pair U V → Bool
le_pair U V a b = cond (U.le b.upper a.upper) (U.le a.upper b.upper && V.le a.lower b.lower) true

-- pairs are added part by part, and compared by the upper part first and then by the lower
abbrev pub pairs : Group → Group → Group
pairs U V =
    record {
      Element = Pair U V;
      plus = λ a b. record { upper = U.plus a.upper b.upper; lower = V.plus a.lower b.lower };
      nil = record { upper = U.nil; lower = V.nil };
      neg = λ a. record { upper = U.neg a.upper; lower = V.neg a.lower };
      le = le_pair U V;
    }
