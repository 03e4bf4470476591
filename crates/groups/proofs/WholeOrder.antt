-- The whole numbers are an ordered group.
use Rattle.std.proofs.Common.{◌≡◌, Bool, true, false, ◌⊎◌, ℤ, ◌+ℤ◌, refl, inl, inr, arith}
use lib.IntN.{+ℤ_assoc, +ℤ_comm, +ℤ_idr, +ℤ_invr}
use lib.Signed.{le_z}
use Rattle.std.proofs.lemmas.Int.{ints}
use Rattle.groups.specs.Group.{Ordered}
use Rattle.groups.specs.Groups.{whole}

le_refl : (a : ℤ) → le_z a a ≡ true
le_refl a = grind (arith, ints)

le_antisym : (a b : ℤ) → le_z a b ≡ true → le_z b a ≡ true → a ≡ b
le_antisym a b h k = grind (arith, ints)

le_trans : (a b c : ℤ) → le_z a b ≡ true → le_z b c ≡ true → le_z a c ≡ true
le_trans a b c h k = grind (arith, ints)

le_total : (a b : ℤ) → (le_z a b ≡ true) ⊎ (le_z b a ≡ true)
le_total a b = go (le_z a b) refl
  where
    go : (t : Bool) → le_z a b ≡ t → (le_z a b ≡ true) ⊎ (le_z b a ≡ true)
    go true e = inl e
    go false e = inr (grind (arith, ints))

le_shift : (a b c : ℤ) → le_z a b ≡ true → le_z (a +ℤ c) (b +ℤ c) ≡ true
le_shift a b c h = grind (arith, ints)

pub whole_ordered : Ordered whole
whole_ordered =
    record {
      assoc = +ℤ_assoc;
      comm = +ℤ_comm;
      unit = +ℤ_idr;
      inverse = +ℤ_invr;
      reflexive = le_refl;
      antisym = le_antisym;
      trans = le_trans;
      total = le_total;
      shift = le_shift;
    }
