-- The laws of a word's places, by those of std on one bit of a number.
use Rattle.std.proofs.Common.{◌≡◌, ℕ, zero, suc, ◌-◌, ◌*◌, ◌/◌, ◌%◌, ◌^◌, ◌<◌, ◌≤◌, min, true, false, cond, not, ◌&&◌, eqb, ltb, ◌⊎◌, sym, refl, ap, ◌∙◌, subst, ap₂, inl, inr, true≢false, pow-suc, pow_pos, w64, arith, shr-shr}
use lib.Bits.{bit_and, bit_or, and_step, and_self, and_le_r}
use Rattle.std.proofs.lemmas.Nat.{one_shl}
use Rattle.std.specs.Int.{bit_at}
use Rattle.std.proofs.lemmas.Nat.Bits.{bit_at_and, bit_at-zero, shr_and_one, bit_at_ones, bit_at_ones_above, bit_at_not, bit_at_above, bit_at-lt, bit_at_set_same, bit_at_set_other, bit_at_clear_same, bit_at_clear_other, same_from_bits_below}
use lib.Count.{count_trailing_zeros, under}
use Rattle.std.proofs.lemmas.Bool.{eq-eqb, ne_eqb, cases_eq, cases_lt, cond-true, cond-false, lt-ltb, le-ltb}
use Rattle.words.specs.Words.{bit, Lowest}

-- a place is in the set where the bit there is 1
pub bit_shift : (w k : ℕ) → bit w k ≡ eqb (bit_at w k) 1
unfolding bit
bit_shift w zero = ap (λ v. eqb (v % 2) 1) (omega arith)
bit_shift w (suc k) = bit_shift (w / 2) k ∙ ap (λ v. eqb (v % 2) 1) (shr-shr w 1 k ∙ ap (λ m. w / 2 ^ m) (omega arith))

-- what is known of the bit is known of the place
at_one : (w k : ℕ) → bit_at w k ≡ 1 → bit w k ≡ true
at_one w k e = bit_shift w k ∙ ap (λ d. eqb d 1) e

at_zero : (w k : ℕ) → bit_at w k ≡ 0 → bit w k ≡ false
at_zero w k e = bit_shift w k ∙ ap (λ d. eqb d 1) e

same_bit : (v w k : ℕ) → bit_at v k ≡ bit_at w k → bit v k ≡ bit w k
same_bit v w k e = bit_shift v k ∙ ap (λ d. eqb d 1) e ∙ sym (bit_shift w k)

pub bit_zero : (k : ℕ) → bit 0 k ≡ false
bit_zero k = at_zero 0 k (bit_at-zero k)

digit : (d : ℕ) → d < 2 → (d ≡ 0) ⊎ (d ≡ 1)
digit zero l = inl refl
digit (suc zero) l = inr refl
digit (suc (suc d)) l = absurd (omega arith)

pub bit_of_and : (a b k : ℕ) → bit (bit_and a b) k ≡ (bit a k && bit b k)
bit_of_and a b k =
    bit_shift (bit_and a b) k ∙ ap (λ d. eqb d 1) (bit_at_and a b k) ∙ go (bit_at a k) (bit_at b k) (digit (bit_at a k) (bit_at-lt a k)) (digit (bit_at b k) (bit_at-lt b k))
    ∙ sym (ap₂ (λ x y. x && y) (bit_shift a k) (bit_shift b k))
  where
    go : (x y : ℕ) → (x ≡ 0) ⊎ (x ≡ 1) → (y ≡ 0) ⊎ (y ≡ 1) → eqb (min x y) 1 ≡ (eqb x 1 && eqb y 1)
    go x y (inl p) (inl q) = rw (p, q) refl
    go x y (inl p) (inr q) = rw (p, q) refl
    go x y (inr p) (inl q) = rw (p, q) refl
    go x y (inr p) (inr q) = rw (p, q) refl

-- no place at or above the length of the word
pub bit_high : (m w k : ℕ) → w < 2 ^ m → m ≤ k → bit w k ≡ false
bit_high m w k h l = at_zero w k (bit_at_above w m k h l)

bit_first : (n j : ℕ) → bit (2 ^ n - 1) j ≡ ltb j n
bit_first n j = go (cases_lt j n)
  where
    go : (j < n) ⊎ (n ≤ j) → bit (2 ^ n - 1) j ≡ ltb j n
    go (inl e) = at_one (2 ^ n - 1) j (bit_at_ones n j e) ∙ sym (lt-ltb j n e)
    go (inr e) = at_zero (2 ^ n - 1) j (bit_at_ones_above n j e) ∙ sym (le-ltb j n e)

-- the places below 64, and those below a number under 64
pub all_places : (n j : ℕ) → n ≡ 64 → bit (2 ^ 64 - 1) j ≡ ltb j n
all_places n j e = bit_first 64 j ∙ ap (ltb j) (sym e)

pub first_places : (n j : ℕ) → n < 64 → bit (1 * 2 ^ n % 2 ^ 64 - 1) j ≡ ltb j n
first_places n j h = ap (λ v. bit (v - 1) j) (one_shl n 64 h) ∙ bit_first n j

pub first_number : (n : ℕ) → n < 64 → 1 * 2 ^ n % 2 ^ 64 - 1 ≡ 2 ^ n - 1
first_number n h = ap (λ v. v - 1) (one_shl n 64 h)

-- the digit at place k, shifted to the lowest
pub digit_at : (w k : ℕ) → eqb (bit_and (w / 2 ^ k) 1) 1 ≡ bit w k
digit_at w k = ap (λ v. eqb v 1) (shr_and_one w k) ∙ sym (bit_shift w k)

-- a word with no place is zero
pub bit_none : (m w : ℕ) → w < 2 ^ m → ((k : ℕ) → k < m → bit w k ≡ false) → w ≡ 0
bit_none m w h f = same_from_bits_below m w 0 h (omega (arith, pow_pos m)) (λ k l. none k (digit (bit_at w k) (bit_at-lt w k)) (f k l) ∙ sym (bit_at-zero k))
  where
    none : (k : ℕ) → (bit_at w k ≡ 0) ⊎ (bit_at w k ≡ 1) → bit w k ≡ false → bit_at w k ≡ 0
    none k (inl z) e = z
    none k (inr o) e = absurd (true≢false (sym (at_one w k o) ∙ e))

eqb_suc : (j k : ℕ) → eqb j k ≡ eqb (suc j) (suc k)
eqb_suc j k = go (cases_eq j k)
  where
    go : (j ≡ k) ⊎ (j ≡ k → ⊥) → eqb j k ≡ eqb (suc j) (suc k)
    go (inl e) = eq-eqb j k e ∙ sym (eq-eqb (suc j) (suc k) (ap suc e))
    go (inr e) = ne_eqb j k e ∙ sym (ne_eqb (suc j) (suc k) (λ q. e (omega arith)))

-- halves and last digits
and_half : (a b : ℕ) → bit_and a b / 2 ≡ bit_and (a / 2) (b / 2)
and_half a b = omega (arith, and_step a b)

and_digit : (a b : ℕ) → bit_and a b % 2 ≡ min (a % 2) (b % 2)
and_digit a b = omega (arith, and_step a b)

-- the lowest place, and the word without it
record Low (w k v : ℕ) : Type 0 where
  set : bit w k ≡ true
  below : (j : ℕ) → j < k → bit w j ≡ false
  rest : (j : ℕ) → bit v j ≡ cond (eqb j k) false (bit w j)

lowest : (m w : ℕ) → 0 < w → w < 2 ^ m → (count_trailing_zeros m w < m) × Low w (count_trailing_zeros m w) (bit_and w (w - 1))
unfolding bit count_trailing_zeros
lowest zero w p h = absurd (omega arith)
lowest (suc m) w p h = go (λ q. lowest m (w / 2) q (omega (arith, pow-suc 2 m))) (digit (w % 2) (omega arith))
  where
    go : (0 < w / 2 → (count_trailing_zeros m (w / 2) < m) × Low (w / 2) (count_trailing_zeros m (w / 2)) (bit_and (w / 2) (w / 2 - 1)))
        → (w % 2 ≡ 0) ⊎ (w % 2 ≡ 1)
        → (count_trailing_zeros (suc m) w < suc m) × Low w (count_trailing_zeros (suc m) w) (bit_and w (w - 1))
    go ih (inr e) =
        subst (λ t. (t < suc m) × Low w t (bit_and w (w - 1))) (sym (ap (λ d. under d (count_trailing_zeros m (w / 2))) e))
        (omega arith, record { set = ap (λ d. eqb d 1) e; below = λ j l. absurd (omega arith); rest = rest })
      where
        rest : (j : ℕ) → bit (bit_and w (w - 1)) j ≡ cond (eqb j zero) false (bit w j)
        rest zero =
            let o : bit_and w (w - 1) % 2 ≡ 0 = omega (arith, and_digit w (w - 1)) in
            ap (λ d. eqb d 1) o
        rest (suc j) =
            let o : (w - 1) / 2 ≡ w / 2 = omega arith in
            ap (λ v. bit v j) (and_half w (w - 1) ∙ ap (bit_and (w / 2)) o ∙ and_self (w / 2))
            ∙ sym (cond-false (eqb (suc j) 0) false (bit (w / 2) j) (ne_eqb (suc j) 0 (λ q. omega arith)))
    go ih (inl e) =
        let q : 0 < w / 2 = omega arith in
        let i = ih q in
        subst (λ t. (t < suc m) × Low w t (bit_and w (w - 1))) (sym (ap (λ d. under d (count_trailing_zeros m (w / 2))) e))
        (omega (arith, i.0), record { set = i.1.set; below = below i.1; rest = rest i.1 })
      where
        below : Low (w / 2) (count_trailing_zeros m (w / 2)) (bit_and (w / 2) (w / 2 - 1)) → (j : ℕ) → j < suc (count_trailing_zeros m (w / 2)) → bit w j ≡ false
        below i zero l = ap (λ d. eqb d 1) e
        below i (suc j) l = i.below j (omega arith)

        rest : Low (w / 2) (count_trailing_zeros m (w / 2)) (bit_and (w / 2) (w / 2 - 1)) → (j : ℕ)
            → bit (bit_and w (w - 1)) j ≡ cond (eqb j (suc (count_trailing_zeros m (w / 2)))) false (bit w j)
        rest i zero =
            let o : bit_and w (w - 1) % 2 ≡ 0 = omega (arith, and_digit w (w - 1)) in
            ap (λ d. eqb d 1) o ∙ sym (ap (λ d. eqb d 1) e)
            ∙ sym (cond-false (eqb 0 (suc (count_trailing_zeros m (w / 2)))) false (bit w 0) (ne_eqb 0 (suc (count_trailing_zeros m (w / 2))) (λ q. omega arith)))
        rest i (suc j) =
            let o : (w - 1) / 2 ≡ w / 2 - 1 = omega arith in
            ap (λ v. bit v j) (and_half w (w - 1) ∙ ap (bit_and (w / 2)) o) ∙ i.rest j
            ∙ ap (λ t. cond t false (bit (w / 2) j)) (eqb_suc j (count_trailing_zeros m (w / 2)))

pub lowest_place : (w : ℕ) → 0 < w → w < 2 ^ 64 → Lowest w (count_trailing_zeros 64 w) (bit_and w (w - 1))
lowest_place w p h =
    let l = lowest 64 w p h in
    record { inside = l.0; set = l.1.set; below = l.1.below; rest = l.1.rest; less = omega (arith, and_le_r w (w - 1)) }

-- what the operators on 64 bits give
pub less_word : (a b j : ℕ) → a < 2 ^ 64 → b < 2 ^ 64 → bit (bit_and a (2 ^ 64 - 1 - b)) j ≡ (bit a j && not (bit b j))
less_word a b j h l = bit_of_and a (2 ^ 64 - 1 - b) j ∙ go (cases_lt j 64)
  where
    flipped : (bit_at b j ≡ 0) ⊎ (bit_at b j ≡ 1) → j < 64 → bit (2 ^ 64 - 1 - b) j ≡ not (bit b j)
    flipped (inl z) e = at_one (2 ^ 64 - 1 - b) j (bit_at_not w64 b j l e ∙ ap (λ d. 1 - d) z) ∙ sym (ap not (at_zero b j z))
    flipped (inr o) e = at_zero (2 ^ 64 - 1 - b) j (bit_at_not w64 b j l e ∙ ap (λ d. 1 - d) o) ∙ sym (ap not (at_one b j o))

    go : (j < 64) ⊎ (64 ≤ j) → (bit a j && bit (2 ^ 64 - 1 - b) j) ≡ (bit a j && not (bit b j))
    go (inl e) = ap (λ x. bit a j && x) (flipped (digit (bit_at b j) (bit_at-lt b j)) e)
    go (inr e) = ap (λ x. x && bit (2 ^ 64 - 1 - b) j) (bit_high 64 a j h e) ∙ sym (ap (λ x. x && not (bit b j)) (bit_high 64 a j h e))

pub with_word : (w k j : ℕ) → k < 64 → bit (bit_or w (1 * 2 ^ k % 2 ^ 64)) j ≡ cond (eqb j k) true (bit w j)
with_word w k j h = go (cases_eq j k)
  where
    v : ℕ
    v = bit_or w (1 * 2 ^ k % 2 ^ 64)

    go : (j ≡ k) ⊎ (j ≡ k → ⊥) → bit v j ≡ cond (eqb j k) true (bit w j)
    go (inl e) = ap (bit v) e ∙ at_one v k (bit_at_set_same w64 w k h) ∙ sym (cond-true (eqb j k) true (bit w j) (eq-eqb j k e))
    go (inr e) = same_bit v w j (bit_at_set_other w64 w k h j e) ∙ sym (cond-false (eqb j k) true (bit w j) (ne_eqb j k e))

pub without_word : (w k j : ℕ) → w < 2 ^ 64 → k < 64 → bit (bit_and w (2 ^ 64 - 1 - 1 * 2 ^ k % 2 ^ 64)) j ≡ cond (eqb j k) false (bit w j)
without_word w k j l h = go (cases_eq j k)
  where
    v : ℕ
    v = bit_and w (2 ^ 64 - 1 - 1 * 2 ^ k % 2 ^ 64)

    high : (j < 64) ⊎ (64 ≤ j) → (j ≡ k → ⊥) → bit v j ≡ bit w j
    high (inl a) e = same_bit v w j (bit_at_clear_other w64 w k h j a e)
    high (inr a) e = bit_of_and w (2 ^ 64 - 1 - 1 * 2 ^ k % 2 ^ 64) j ∙ ap (λ x. x && bit (2 ^ 64 - 1 - 1 * 2 ^ k % 2 ^ 64) j) (bit_high 64 w j l a) ∙ sym (bit_high 64 w j l a)

    go : (j ≡ k) ⊎ (j ≡ k → ⊥) → bit v j ≡ cond (eqb j k) false (bit w j)
    go (inl e) = ap (bit v) e ∙ at_zero v k (bit_at_clear_same w64 w k h) ∙ sym (cond-true (eqb j k) false (bit w j) (eq-eqb j k e))
    go (inr e) = high (cases_lt j 64) e ∙ sym (cond-false (eqb j k) false (bit w j) (ne_eqb j k e))
