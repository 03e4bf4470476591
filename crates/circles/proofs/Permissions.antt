-- Permission words, and what they pose to the planner.
use Rattle.std.proofs.Common.{◌≡◌, ℕ, zero, suc, ◌/◌, ◌^◌, ◌<◌, ◌≤◌, true, false, cond, not, ◌&&◌, ltb, List, length, get_or, None, refl, ◌∙◌, pow-suc, arith}
use mathlib.Core.Path.{fun_ext}
use Rattle.std.proofs.lemmas.Bool.{lt-ltb, and_from, not_from_false}
use Rattle.std.proofs.lemmas.Bool.Decides.{nat_tests}
use Rattle.std.proofs.lemmas.Grind.{common_steps}
use Rattle.words.specs.Words.{bit}
use Rattle.words.proofs.Digits.{bit_zero, bit_none}
use Rattle.amounts.specs.Kind.{Kind}
use Rattle.planner.specs.declared.answer.Answer.{Answer}
use Rattle.planner.specs.Calls.{all_below, word_fits, words_fit, weights_fit, plan_refusal, asked, Planned}
use Rattle.planner.specs.Tables.{row}
use Rattle.circles.specs.declared.members.Members.{Members}
use Rattle.circles.specs.Members.{member_at}
use Rattle.circles.specs.Tasks.{permits, posed_by}
use Rattle.circles.specs.Answered.{Answered}

-- a word without places at n or beyond it is below 2^n
below_power : (n m w : ℕ) → w < 2 ^ m → ((k : ℕ) → n ≤ k → bit w k ≡ false) → w < 2 ^ n
unfolding bit
below_power zero m w h none = let z = bit_none m w h (λ k _. none k (omega arith)) in omega arith
below_power (suc n) zero w h none = omega (arith, pow-suc 2 n, below_power n zero 0 (omega arith) (λ k _. bit_zero k))
below_power (suc n) (suc m) w h none =
    let half : w / 2 < 2 ^ n = below_power n m (w / 2) (omega (arith, pow-suc 2 m)) (λ k l. none (suc k) (omega arith)) in omega (arith, pow-suc 2 n)

module _ (ms : Members) (bounded : (k : ℕ) → ms.count ≤ k → (member_at ms k).alive ≡ false) where
  -- nobody beyond the members is permitted anything
  pub no_giver : (j i : ℕ) → ms.count ≤ j → permits ms j i ≡ false
  no_giver j i h = rw (bounded j h)

  pub no_receiver : (j i : ℕ) → ms.count ≤ i → permits ms j i ≡ false
  no_receiver j i h = grind (arith, common_steps, bounded i h)

  -- nor anybody from itself
  pub no_self : (j : ℕ) → permits ms j j ≡ false
  no_self j = grind (arith, common_steps, nat_tests)

  module _ (ws : List ℕ) (small : (j : ℕ) → get_or ws j 0 < 2 ^ 64) (are : (j i : ℕ) → bit (get_or ws j 0) i ≡ permits ms j i) where
    -- the planner takes such words
    pub words_all_fit : words_fit ms.count ws ≡ true
    unfolding all_below
    words_all_fit = all ms.count
      where
        one : (j : ℕ) → word_fits ms.count j (get_or ws j 0) ≡ true
        one j =
            and_from (not (bit (get_or ws j 0) j)) (ltb (get_or ws j 0) (2 ^ ms.count)) (not_from_false (bit (get_or ws j 0) j) (are j j ∙ no_self j))
            (lt-ltb (get_or ws j 0) (2 ^ ms.count) (below_power ms.count 64 (get_or ws j 0) (small j) (λ k l. are j k ∙ no_receiver j k l)))

        all : (b : ℕ) → all_below b (λ j. word_fits ms.count j (get_or ws j 0)) ≡ true
        all zero = refl
        all (suc b) = and_from (all_below b (λ j. word_fits ms.count j (get_or ws j 0))) (word_fits ms.count b (get_or ws b 0)) (all b) (one b)

    -- and is asked what the members pose
    pub asked_posed : {V : Type 0} (k : Kind V) (weights : List V)
        → asked k ms.count weights ws ≡ posed_by ms (λ j. cond (ltb j ms.count) (row k weights j) k.group.nil)
    asked_posed k weights = λ i. record { n = ms.count; w = λ j. cond (ltb j ms.count) (row k weights j) k.group.nil; permitted = fun_ext (λ a. fun_ext (both a)) i }
      where
        both : (a b : ℕ) → (ltb a ms.count && (ltb b ms.count && bit (get_or ws a 0) b)) ≡ permits ms a b
        both a b = grind (arith, nat_tests, common_steps, are a b, no_receiver a b, no_giver a b)

-- what the general plan call promises of its tables, said of the task that they pose
pub answered : {V : Type 0} (k : Kind V) (n : ℕ) (ws : List V) (ps : List ℕ) (a : Answer) (xs gs rs : List V) → Planned k n ws ps a xs gs rs
    → Answered k (asked k n ws ps) a xs gs rs
answered k n ws ps a xs gs rs P =
    record { ran = P.ran; within = P.within; x_values = P.x_values; g_values = P.g_values; r_values = P.r_values; means = P.means }

-- a call with tables of their lengths, such words and weights that fit is not refused
pub unrefused : {V : Type 0} (k : Kind V) (n : ℕ) (ws : List V) (ps : List ℕ) (xs gs rs : List V) → length ws ≡ 64 → length ps ≡ 64 → length xs ≡ 4096 → length gs ≡ 64
    → length rs ≡ 64 → 1 ≤ n → n ≤ 64 → words_fit n ps ≡ true → weights_fit k n ws ≡ true → plan_refusal k n ws ps xs gs rs ≡ None
unrefused k n ws ps xs gs rs a b c d e some room f g = grind (arith, nat_tests)
