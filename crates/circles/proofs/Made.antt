-- An array that a function made, entry by entry.
use Rattle.std.proofs.Common.{◌≡◌, ℕ, zero, suc, ◌+◌, ◌<◌, ◌≤◌, List, get_or, sym, subst, arith, ⊎_elim}
use Rattle.std.proofs.lemmas.Bool.{cases_eq}
use denote.Param.Members.{Mut}
use Rattle.std.specs.Fn.{Called}
use Rattle.std.specs.Array.{IsFromFnResultFrom}

-- what holds of each value that a function gives, where a call leaves the function as it was, holds of each entry
module _ {F B : Type 0} (g : Mut F (ℕ × Unit {0}) B) (P : ℕ → B → Type 0) (f : F)
    (step : (i : ℕ) (y : B) (q : F) → Called g f (i, tt) y q → P i y × (q ≡ f)) where
  pub entries : (ys : List B) (d : B) (i n : ℕ) → IsFromFnResultFrom g f ys i n → (k : ℕ) → i ≤ k → k < i + n → P k (get_or ys k d)
  entries ys d i zero h k l m = absurd (let z : ⊥ = omega arith in z)
  entries ys d i (suc n) (q, y, at, called, rest) k l m =
      let now = step i y q called in
      let more = subst (λ p. IsFromFnResultFrom g p ys (i + 1) n) now.1 rest in
      ⊎_elim (λ (e : k ≡ i). subst (λ a. P a (get_or ys a d)) (sym e) (subst (P i) (sym (at.1 d)) now.0))
      (λ (e : k ≡ i → ⊥). entries ys d (i + 1) n more k (omega (arith, e)) (omega arith)) (cases_eq k i)
