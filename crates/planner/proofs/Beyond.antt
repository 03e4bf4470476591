-- What lies beyond n plays no part in a plan call.
use Rattle.std.proofs.Common.{◌≡◌, ℕ, zero, suc, ◌<◌, Bool, true, false, cond, not, ◌&&◌, eqb, ltb, leb, List, [], ◌∷◌, length, get_or, take, Option, sym, refl, ap, ◌∙◌, ap₂, arith}
use mathlib.Core.Path.{fun_ext}
use Rattle.std.proofs.lemmas.Bool.{ltb-true}
use Rattle.words.specs.Words.{bit}
use Rattle.refusals.specs.declared.Refusal.{Refusal}
use Rattle.refusals.specs.declared.Refusal.TheVariants.{Length, MemberRange, PermissionWord, NotAnAmount}
use Rattle.refusals.specs.Judged.{first_of}
use Rattle.amounts.specs.Kind.{Kind}
use Rattle.planner.specs.Calls.{all_below, all_first, word_fits, words_fit, weight_fits, weights_fit, plan_refusal, asked, BeyondIgnored}
use Rattle.planner.specs.Tables.{row}

first_take : {V : Type 0} (p : V → Bool) (n : ℕ) (vs : List V) → all_first p n (take n vs) ≡ all_first p n vs
unfolding all_first
first_take p zero vs = refl
first_take p (suc n) [] = refl
first_take p (suc n) (v ∷ vs) = ap (λ b. p v && b) (first_take p n vs)

get_d_front : (n : ℕ) (vs : List ℕ) (j : ℕ) → j < n → get_or (take n vs) j 0 ≡ get_or vs j 0
get_d_front zero vs j h = absurd (omega arith)
get_d_front (suc n) [] j h = refl
get_d_front (suc n) (v ∷ vs) zero h = refl
get_d_front (suc n) (v ∷ vs) (suc j) h = get_d_front n vs j (omega arith)

all_ext : (n : ℕ) (p q : ℕ → Bool) → ((j : ℕ) → j < n → p j ≡ q j) → all_below n p ≡ all_below n q
unfolding all_below
all_ext zero p q e = refl
all_ext (suc n) p q e = ap₂ (λ a b. a && b) (all_ext n p q (λ j l. e j (omega arith))) (e n (omega arith))

module _ {V : Type 0} (k : Kind V) where
  row_front : (n : ℕ) (vs : List V) (j : ℕ) → j < n → row k (take n vs) j ≡ row k vs j
  unfolding row
  row_front zero vs j h = absurd (omega arith)
  row_front (suc n) [] j h = refl
  row_front (suc n) (v ∷ vs) zero h = refl
  row_front (suc n) (v ∷ vs) (suc j) h = row_front n vs j (omega arith)

  pub beyond_ignored : (n : ℕ) (ws : List V) (ps : List ℕ) (xs gs rs : List V) → BeyondIgnored k n ws ps xs gs rs
  beyond_ignored n ws ps xs gs rs ws' ps' lw lp fw fp = (same_refusal, same_task)
    where
      word_same : (j : ℕ) → j < n → get_or ps' j 0 ≡ get_or ps j 0
      word_same j l = sym (get_d_front n ps' j l) ∙ ap (λ q. get_or q j 0) fp ∙ get_d_front n ps j l

      row_same : (j : ℕ) → j < n → row k ws' j ≡ row k ws j
      row_same j l = sym (row_front n ws' j l) ∙ ap (λ q. row k q j) fw ∙ row_front n ws j l

      words : words_fit n ps' ≡ words_fit n ps
      words = all_ext n (λ j. word_fits n j (get_or ps' j 0)) (λ j. word_fits n j (get_or ps j 0)) (λ j l. ap (word_fits n j) (word_same j l))

      weights : weights_fit k n ws' ≡ weights_fit k n ws
      weights = sym (first_take (weight_fits k) n ws') ∙ ap (all_first (weight_fits k) n) fw ∙ first_take (weight_fits k) n ws

      refusal : ℕ → ℕ → Bool → Bool → Option Refusal
      refusal a b c d =
          first_of
          ((not ((eqb a 64 && eqb b 64) && (eqb (length xs) 4096 && (eqb (length gs) 64 && eqb (length rs) 64))), Length)
          ∷ (not (leb 1 n && leb n 64), MemberRange)
          ∷ (not c, PermissionWord)
          ∷ (not d, NotAnAmount)
          ∷ [])

      same_refusal : plan_refusal k n ws' ps' xs gs rs ≡ plan_refusal k n ws ps xs gs rs
      same_refusal =
          ap₂ (λ a b. refusal a b (words_fit n ps') (weights_fit k n ws')) lw lp ∙ ap₂ (refusal (length ws) (length ps)) words weights

      guarded : {A : Type 0} (j : ℕ) (a b z : A) → (j < n → a ≡ b) → cond (ltb j n) a z ≡ cond (ltb j n) b z
      guarded j a b z e = go (ltb j n) refl
        where
          go : (t : Bool) → ltb j n ≡ t → cond t a z ≡ cond t b z
          go true h = e (ltb-true j n h)
          go false h = refl

      permitted_same : (j i : ℕ) → (ltb j n && (ltb i n && bit (get_or ps' j 0) i)) ≡ (ltb j n && (ltb i n && bit (get_or ps j 0) i))
      permitted_same j i = go (ltb j n) refl
        where
          go : (t : Bool) → ltb j n ≡ t → (t && (ltb i n && bit (get_or ps' j 0) i)) ≡ (t && (ltb i n && bit (get_or ps j 0) i))
          go true h = ap (λ v. ltb i n && bit v i) (word_same j (ltb-true j n h))
          go false h = refl

      same_task : asked k n ws' ps' ≡ asked k n ws ps
      same_task =
          λ i. record {
            n = n;
            w = fun_ext (λ j. guarded j (row k ws' j) (row k ws j) k.group.nil (row_same j)) i;
            permitted = fun_ext (λ a. fun_ext (permitted_same a)) i;
          }
