-- Drift keeps the laws of a kind.
use Rattle.std.specs.Prelude.{◌≡◌, ◌+◌, ◌≤◌, true, ◌&&◌, ◌∷◌, length, ℤ, pos, negsuc, neg_ℤ, decimal, int_le, refl}
use Rattle.std.proofs.Common.{one-add, arith, ap, subst, sym, ◌∙◌, length-append}
use Rattle.std.specs.Int.Signed.{mag}
use Rattle.std.specs.Fmt.{signed_decimal}
use Rattle.std.proofs.lemmas.Fmt.{length-decimal-le, length_signed_le}
use Rattle.std.proofs.lemmas.Int.{ints}
use Rattle.std.proofs.lemmas.Bool.{and_parts, leb-true, false≢true}
use Rattle.groups.specs.Groups.{whole, Pair}
use Rattle.groups.proofs.PairOrder.{pairs_ordered}
use Rattle.groups.proofs.WholeOrder.{whole_ordered}
use Rattle.amounts.specs.declared.drift.Drift.{Drift}
use Rattle.amounts.specs.Kind.{Lawful}
use Rattle.amounts.specs.Drifts.{drift, drift_pair, held_drift}

-- the parts of what is held are in range
pub record InRange (e : Pair whole whole) : Type 0 where
  pub weight_low : int_le (pos 0) e.upper ≡ true
  pub weight_high : int_le e.upper (pos 1000000000000000000) ≡ true
  pub change_low : int_le (neg_ℤ (pos 1000000000000000000)) e.lower ≡ true
  pub change_high : int_le e.lower (pos 1000000000000000000) ≡ true

-- and so what is held has its parts in range
pub in_range : (e : Pair whole whole) → held_drift e ≡ true → InRange e
in_range e h =
    let both = and_parts (int_le (pos 0) e.upper && int_le e.upper (pos 1000000000000000000)) (int_le (neg_ℤ (pos 1000000000000000000)) e.lower && int_le e.lower (pos 1000000000000000000)) h in
    let weight = and_parts (int_le (pos 0) e.upper) (int_le e.upper (pos 1000000000000000000)) both.0 in
    let change = and_parts (int_le (neg_ℤ (pos 1000000000000000000)) e.lower) (int_le e.lower (pos 1000000000000000000)) both.1 in
    record { weight_low = weight.0; weight_high = weight.1; change_low = change.0; change_high = change.1 }

-- what is held is some value
held_value : (e : Pair whole whole) → held_drift e ≡ true → (d : Drift) × (held_drift (drift_pair d) ≡ true) × (drift_pair d ≡ e)
held_value e h = go e.upper refl
  where
    go : (u : ℤ) → e.upper ≡ u → (d : Drift) × (held_drift (drift_pair d) ≡ true) × (drift_pair d ≡ e)
    go (pos n) q =
        let same : drift_pair (record { weight = n; change = e.lower }) ≡ e = ap (λ (u : ℤ). record { upper = u; lower = e.lower }) (sym q) in
        (record { weight = n; change = e.lower }, subst (λ p. held_drift p ≡ true) (sym same) h, same)
    go (negsuc n) q = absurd (false≢true (subst (λ u. int_le (pos 0) u ≡ true) q (in_range e h).weight_low))

-- a value has a weight of at most 10^18
pub weight_most : (d : Drift) → drift.value d ≡ true → d.weight ≤ 1000000000000000000
weight_most d h = leb-true d.weight 1000000000000000000 (in_range (drift_pair d) h).weight_high

-- and a change of at most 10^18, up or down
pub change_most : (z : ℤ) → int_le (neg_ℤ (pos 1000000000000000000)) z ≡ true → int_le z (pos 1000000000000000000) ≡ true → mag z ≤ 1000000000000000000
change_most (pos n) low high = leb-true n 1000000000000000000 high
change_most (negsuc n) low high = grind (arith, ints)

-- a text is as long as its two numbers and the space between them
pub text_length : (d : Drift) → length (drift.text d) ≡ length (decimal d.weight) + (1 + length (signed_decimal d.change))
text_length d = length-append (decimal d.weight) (32 ∷ signed_decimal d.change) ∙ ap (λ n. length (decimal d.weight) + n) (sym (one-add (length (signed_decimal d.change))))

-- which is 40 bytes at most
text_most : (d : Drift) → drift.value d ≡ true → length (drift.text d) ≤ 40
text_most d h =
    let weight = weight_most d h in
    let range = in_range (drift_pair d) h in
    let change = change_most d.change range.change_low range.change_high in
    let first = length-decimal-le 19 d.weight (omega arith) (omega arith) (omega arith) in
    let second = length_signed_le 19 d.change (omega arith) (omega arith) in
    subst (λ n. n ≤ 40) (sym (text_length d)) (omega arith)

-- what the kind drift has to show
pub drift_lawful : Lawful drift
drift_lawful =
    record {
      ordered = pairs_ordered whole whole whole_ordered whole_ordered;
      value_held = λ d h. h;
      held_value = held_value;
      nil_held = refl;
      text_some = λ d h. subst (λ n. 1 ≤ n) (sym (text_length d)) (omega arith);
      text_most = text_most;
    }
