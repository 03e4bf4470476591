-- The product of a balance and a yearly change of odds, as the code computes it.
use Rattle.std.proofs.Common.{◌≡◌, ℕ, ◌≤◌, ℤ, pos, ◌*ℤ◌, neg_ℤ, ◌≤ℤ◌, sym, ap, ◌∙◌, subst, ap₂, arith, w32, w64, SFits, to_z, of_z}
use Rattle.std.proofs.lemmas.Int.{ints, to_z-of_z, to_z_pos}
use Rattle.circles.specs.WeighingLaws.{product_low, product_high}

product_fits : (b : ℕ) (z : ℤ) → b ≤ 1000000000000 → neg_ℤ (pos 1000000) ≤ℤ z → z ≤ℤ pos 1000000 → SFits w64 (pos b *ℤ z)
product_fits b z h l u = let low = product_low b z h l in let high = product_high b z h u in omega (arith, ints)

-- the factors as the code holds them
factors : (b : ℕ) (z y : ℤ) → y ≡ to_z w32 (of_z w32 z) → b ≤ 1000000000000 → neg_ℤ (pos 1000000) ≤ℤ z → z ≤ℤ pos 1000000
    → to_z w64 b *ℤ to_z w64 (of_z w64 y) ≡ pos b *ℤ z
factors b z y e h l u =
    let narrow : SFits w32 z = omega (arith, ints) in
    let wide : SFits w64 z = omega (arith, ints) in
    ap₂ ◌*ℤ◌ (to_z_pos w64 b (omega arith)) (ap (λ v. to_z w64 (of_z w64 v)) (e ∙ to_z-of_z w32 z narrow) ∙ to_z-of_z w64 z wide)

pub product_held : (b : ℕ) (z y : ℤ) → y ≡ to_z w32 (of_z w32 z) → b ≤ 1000000000000 → neg_ℤ (pos 1000000) ≤ℤ z → z ≤ℤ pos 1000000
    → SFits w64 (to_z w64 b *ℤ to_z w64 (of_z w64 y))
product_held b z y e h l u = subst (SFits w64) (sym (factors b z y e h l u)) (product_fits b z h l u)

pub product_value : (b : ℕ) (z y : ℤ) → y ≡ to_z w32 (of_z w32 z) → b ≤ 1000000000000 → neg_ℤ (pos 1000000) ≤ℤ z → z ≤ℤ pos 1000000
    → to_z w64 (of_z w64 (to_z w64 b *ℤ to_z w64 (of_z w64 y))) ≡ pos b *ℤ z
product_value b z y e h l u = ap (λ v. to_z w64 (of_z w64 v)) (factors b z y e h l u) ∙ to_z-of_z w64 (pos b *ℤ z) (product_fits b z h l u)
