-- What the two answers, plan and blocked, mean.
use Rattle.std.proofs.Common.{◌≡◌, ℕ, ◌<◌, Bool, true, false, ◌&&◌, sym, refl, ap, ◌∙◌, subst, true≢false}
use Rattle.std.proofs.lemmas.Bool.{and_from}
use Rattle.groups.specs.Group.{Group, Ordered}
use Rattle.groups.specs.Sums.{Le, Lt, above, sum_below, keep}
use Rattle.groups.proofs.Order.{unit_left, cancel, lt_shift_left, not_both, not_above_nil, above_lt, le_of_eq}
use Rattle.groups.proofs.Totals.{sum_ext, sum_plus, sum_nil, sum_swap, sum_le, sum_lt, sum_zeros, sum_keep}
use Rattle.flow.specs.Flow.{Task, State, Inv, Fair, Closed, near, weight_of}
use Rattle.flow.proofs.Counting.{any_from}
use Rattle.flow.proofs.Shortfall.{weights_apart}

module _ (G : Group) (L : Ordered G) (t : Task G.Element) where
  open G use {Element as E, plus as ◌⊕◌, nil as o}
  open L use {comm, unit, reflexive}

  infixl 65 ◌⊕◌
  pub blocked_weights : (s : State E) (S : ℕ → Bool) → Inv G t s → Closed G t s S
      → (j : ℕ) → j < t.n → above G (s.g j) ≡ true
      → Lt G (weight_of G t (near t S)) (weight_of G t S)
  blocked_weights s S inv closed j lj p =
      subst (λ z. Lt G (weight_of G t (near t S)) z) (sym (weights_apart G L t s S inv closed))
      (let m = lt_shift_left G L o (sum_below G t.n s.g) (weight_of G t (near t S)) some in rw (unit (weight_of G t (near t S))) at m)
    where
      some : Lt G o (sum_below G t.n s.g)
      some =
          subst (λ z. Lt G z (sum_below G t.n s.g)) (sum_nil G L t.n (λ k. o) (λ k l. refl))
          (sum_lt G L t.n (λ k. o) s.g j lj inv.g_least (above_lt G L (s.g j) p))

  -- a set whose weight passes that of all who may receive from it admits no fair plan
  pub no_fair : (S : ℕ → Bool) (y : ℕ → ℕ → E) → Fair G t y → Le G (weight_of G t S) (weight_of G t (near t S))
  no_fair S y fair =
      subst (λ z. Le G z (weight_of G t (near t S))) (sym (rows S y fair.forfeits))
      (subst (λ z. Le G inside z) (sym (rows (near t S) (λ i j. y j i) fair.gains ∙ sum_swap G L t.n t.n (λ i a. keep G (near t S i) (y a i)))) below)
    where
      inside : E
      inside = sum_below G t.n (λ a. sum_below G t.n (λ i. keep G (S a) (y a i)))

      rows : (R : ℕ → Bool) (z : ℕ → ℕ → E) → ((j : ℕ) → j < t.n → sum_below G t.n (λ i. z j i) ≡ t.w j)
          → weight_of G t R ≡ sum_below G t.n (λ a. sum_below G t.n (λ i. keep G (R a) (z a i)))
      rows R z h =
          sum_ext G L t.n (λ j. keep G (R j) (t.w j)) (λ a. sum_below G t.n (λ i. keep G (R a) (z a i)))
          (λ j l. ap (keep G (R j)) (sym (h j l)) ∙ sum_keep G L t.n (R j) (λ i. z j i))

      each : (j i : ℕ) → j < t.n → i < t.n → (a b c : Bool) → S j ≡ a → near t S i ≡ b → t.permitted j i ≡ c → Le G (keep G a (y j i)) (keep G b (y j i))
      each j i lj li true true c p q e = reflexive (y j i)
      each j i lj li true false true p q e =
          absurd (true≢false (sym (any_from t.n (λ k. S k && t.permitted k i) j lj (and_from (S j) (t.permitted j i) p e)) ∙ q))
      each j i lj li true false false p q e = le_of_eq G L (y j i) o (fair.off j i lj li e)
      each j i lj li false true c p q e = fair.least j i lj li
      each j i lj li false false c p q e = reflexive o

      below : Le G inside (sum_below G t.n (λ a. sum_below G t.n (λ i. keep G (near t S i) (y a i))))
      below =
          sum_le G L t.n (λ a. sum_below G t.n (λ i. keep G (S a) (y a i))) (λ a. sum_below G t.n (λ i. keep G (near t S i) (y a i)))
          (λ a la. sum_le G L t.n (λ i. keep G (S a) (y a i)) (λ i. keep G (near t S i) (y a i))
          (λ i li. each a i la li (S a) (near t S i) (t.permitted a i) refl refl refl))

  pub blocked : (s : State E) (S : ℕ → Bool) → Inv G t s → Closed G t s S
      → (j : ℕ) → j < t.n → above G (s.g j) ≡ true → (y : ℕ → ℕ → E) → Fair G t y → ⊥
  blocked s S inv closed j l p y fair =
      not_both G L (weight_of G t (near t S)) (weight_of G t S) (blocked_weights s S inv closed j l p) (no_fair S y fair)

  -- when nothing is left to give, nothing is left to get, and the transfers are a fair plan
  pub got : (s : State E) → Inv G t s → ((j : ℕ) → j < t.n → above G (s.g j) ≡ false) → (i : ℕ) → i < t.n → s.r i ≡ o
  got s inv none = sum_zeros G L t.n s.r inv.r_least (cancel G L (sum_below G t.n s.r) o all level)
    where
      all : E
      all = sum_below G t.n (λ j. sum_below G t.n (λ i. s.x j i))

      level : sum_below G t.n s.r ⊕ all ≡ o ⊕ all
      level =
          comm (sum_below G t.n s.r) all
          ∙ ap (λ z. z ⊕ sum_below G t.n s.r) (sum_swap G L t.n t.n s.x)
          ∙ sym (sum_plus G L t.n (λ i. sum_below G t.n (λ j. s.x j i)) s.r)
          ∙ sum_ext G L t.n (λ i. sum_below G t.n (λ j. s.x j i) ⊕ s.r i) t.w inv.columns
          ∙ sum_ext G L t.n t.w (λ j. sum_below G t.n (λ i. s.x j i))
          (λ j l. sym (inv.rows j l) ∙ ap (λ z. sum_below G t.n (λ i. s.x j i) ⊕ z) (not_above_nil G L (s.g j) (inv.g_least j l) (none j l)) ∙ unit (sum_below G t.n (λ i. s.x j i)))
          ∙ sym (unit_left G L all)

  pub plan : (s : State E) → Inv G t s → ((j : ℕ) → j < t.n → above G (s.g j) ≡ false) → Fair G t s.x
  plan s inv none =
      record {
        least = inv.x_least;
        off = inv.x_off;
        forfeits = λ j l. sym (unit (sum_below G t.n (λ i. s.x j i))) ∙ ap (λ z. sum_below G t.n (λ i. s.x j i) ⊕ z) (sym (not_above_nil G L (s.g j) (inv.g_least j l) (none j l))) ∙ inv.rows j l;
        gains = λ i l. sym (unit (sum_below G t.n (λ j. s.x j i))) ∙ ap (λ z. sum_below G t.n (λ j. s.x j i) ⊕ z) (sym (got s inv none i l)) ∙ inv.columns i l;
      }
