-- Weights with their yearly changes, seen one m-th of a year later, for all m from some m on.
use Rattle.std.proofs.Common.{◌≡◌, ℕ, zero, suc, ◌+◌, ◌<◌, ◌≤◌, Bool, true, false, ℤ, pos, negsuc, ◌+ℤ◌, ◌*ℤ◌, neg_ℤ, nat_abs, ◌≤ℤ◌, sym, refl, ap, ◌∙◌, subst, arith}
use borrow.Author.Count.{below_more}
use lib.IntN.{zero-*ℤ, *ℤ-zero, suc_ℤ-*ℤ}
use lib.Signed.{le_z}
use Rattle.std.proofs.lemmas.Int.{ints}
use Rattle.std.proofs.lemmas.Bool.Decides.{nat_tests}
use Rattle.groups.specs.Groups.{whole, Pair, pairs}
use Rattle.groups.specs.Sums.{Le, Lt, sum_below, keep}
use Rattle.groups.proofs.Order.{not_both}
use Rattle.groups.proofs.WholeOrder.{whole_ordered}
use Rattle.groups.proofs.Totals.{sum_ext}
use Rattle.flow.specs.Flow.{Task, Fair, near, weight_of}
use Rattle.flow.proofs.Answers.{no_fair}
use Rattle.circles.specs.Outlooks.{Eventually, after}

times_suc : (m : ℕ) (u : ℤ) → pos (suc m) *ℤ u ≡ (pos m *ℤ u) +ℤ u
times_suc m u = suc_ℤ-*ℤ (pos m) u

times_plus : (m : ℕ) (u v : ℤ) → pos m *ℤ (u +ℤ v) ≡ (pos m *ℤ u) +ℤ (pos m *ℤ v)
times_plus zero u v = omega (arith, ints, zero-*ℤ u, zero-*ℤ v, zero-*ℤ (u +ℤ v))
times_plus (suc m) u v = omega (arith, ints, times_suc m u, times_suc m v, times_suc m (u +ℤ v), times_plus m u v)

-- a larger factor by at least one gives more by at least m
times_more : (m : ℕ) (u v : ℤ) → le_z v u ≡ false → ((pos m *ℤ u) +ℤ pos m) ≤ℤ (pos m *ℤ v)
times_more zero u v h = omega (arith, ints, zero-*ℤ u, zero-*ℤ v)
times_more (suc m) u v h =
    let more : (u +ℤ pos 1) ≤ℤ v = grind (arith, ints) in omega (arith, ints, times_suc m u, times_suc m v, times_more m u v h)

-- the view after one m-th of a year keeps sums
after_plus : (m : ℕ) (a b : Pair whole whole) → after m ((pairs whole whole).plus a b) ≡ after m a +ℤ after m b
after_plus m a b = omega (arith, ints, times_plus m a.upper b.upper)

after_nil : (m : ℕ) → after m (pairs whole whole).nil ≡ pos 0
after_nil m = omega (arith, ints, *ℤ-zero (pos m))

after_sum : (m n : ℕ) (f : ℕ → Pair whole whole) → after m (sum_below (pairs whole whole) n f) ≡ sum_below whole n (λ k. after m (f k))
after_sum m zero f = after_nil m
after_sum m (suc n) f = after_plus m (sum_below (pairs whole whole) n f) (f n) ∙ ap (λ z. z +ℤ after m (f n)) (after_sum m n f)

after_keep : (m : ℕ) (b : Bool) (a : Pair whole whole) → after m (keep (pairs whole whole) b a) ≡ keep whole b (after m a)
after_keep m true a = refl
after_keep m false a = after_nil m

low_abs : (z : ℤ) → neg_ℤ (pos (nat_abs z)) ≤ℤ z
low_abs (pos n) = omega (arith, ints)
low_abs (negsuc n) = omega (arith, ints)

high_abs : (z : ℤ) → z ≤ℤ pos (nat_abs z)
high_abs (pos n) = omega (arith, ints)
high_abs (negsuc n) = omega (arith, ints)

-- what is below stays below, from some m on
pub after_below : (a b : Pair whole whole) → Lt (pairs whole whole) a b → Eventually (λ m. Lt whole (after m a) (after m b))
after_below a b h = (nat_abs a.lower + nat_abs b.lower + 1, λ m l. go m l (le_z b.upper a.upper) refl)
  where
    go : (m : ℕ) → nat_abs a.lower + nat_abs b.lower + 1 ≤ m → (t : Bool) → le_z b.upper a.upper ≡ t → le_z (after m b) (after m a) ≡ false
    go m l false e =
        let p = times_more m a.upper b.upper e in
        let q = low_abs b.lower in
        let r = high_abs a.lower in
        let lt : (after m a +ℤ pos 1) ≤ℤ after m b = omega (arith, ints) in
        grind (arith, ints)
    go m l true e =
        let same : a.upper ≡ b.upper = grind (arith, nat_tests, ints) in
        let low : le_z b.lower a.lower ≡ false = grind (arith, nat_tests, ints) in
        let times = ap (λ u. pos m *ℤ u) same in
        let less : (a.lower +ℤ pos 1) ≤ℤ b.lower = grind (arith, ints) in
        let lt : (after m a +ℤ pos 1) ≤ℤ after m b = omega (arith, ints) in
        grind (arith, ints)

-- what is at least zero stays so, from some m on
after_least : (a : Pair whole whole) → Le (pairs whole whole) (pairs whole whole).nil a → Eventually (λ m. Le whole (pos 0) (after m a))
after_least a h = (nat_abs a.lower, λ m l. go m l (le_z a.upper (pos 0)) refl)
  where
    go : (m : ℕ) → nat_abs a.lower ≤ m → (t : Bool) → le_z a.upper (pos 0) ≡ t → le_z (pos 0) (after m a) ≡ true
    go m l false e =
        let p = times_more m (pos 0) a.upper e in
        let z = *ℤ-zero (pos m) in
        let q = low_abs a.lower in
        let le : pos 0 ≤ℤ after m a = omega (arith, ints) in
        grind (arith, ints)
    go m l true e =
        let same : a.upper ≡ pos 0 = grind (arith, nat_tests, ints) in
        let low : le_z (pos 0) a.lower ≡ true = grind (arith, nat_tests, ints) in
        let times = ap (λ u. pos m *ℤ u) same in
        let z = *ℤ-zero (pos m) in
        let least : pos 0 ≤ℤ a.lower = grind (arith, ints) in
        let le : pos 0 ≤ℤ after m a = omega (arith, ints) in
        grind (arith, ints)

-- what holds of each number below n from some m on holds of all of them from some m on
eventually_all : (n : ℕ) (P : ℕ → ℕ → Type 0) → ((j : ℕ) → j < n → Eventually (P j)) → Eventually (λ m. (j : ℕ) → j < n → P j m)
eventually_all zero P h = (0, λ m _ j l. absurd (let z : ⊥ = omega arith in z))
eventually_all (suc n) P h =
    let rest = eventually_all n P (λ j l. h j (omega arith)) in
    let last = h n (omega arith) in
    (rest.0 + last.0, λ m l j q. below_more (λ j. P j m) n (rest.1 m (omega arith)) (last.1 m (omega arith)) j (omega arith))

-- a task one m-th of a year later
abbrev pub later : ℕ → Task (Pair whole whole) → Task ℤ
later m t = record { n = t.n; w = λ j. after m (t.w j); permitted = t.permitted }

module _ (t : Task (Pair whole whole)) where
  -- a fair plan is one from some m on
  pub fair_later : (x : ℕ → ℕ → Pair whole whole) → Fair (pairs whole whole) t x → Eventually (λ m. Fair whole (later m t) (λ j i. after m (x j i)))
  fair_later x fair =
      let least = eventually_all t.n (λ j m. (i : ℕ) → i < t.n → Le whole (pos 0) (after m (x j i)))
      (λ j p. eventually_all t.n (λ i m. Le whole (pos 0) (after m (x j i))) (λ i q. after_least (x j i) (fair.least j i p q))) in (
        least.0,
        λ m l.
            record {
              least = λ j i p q. least.1 m l j p i q;
              off = λ j i p q e. ap (after m) (fair.off j i p q e) ∙ after_nil m;
              forfeits = λ j p. sym (after_sum m t.n (λ i. x j i)) ∙ ap (after m) (fair.forfeits j p);
              gains = λ i p. sym (after_sum m t.n (λ j. x j i)) ∙ ap (after m) (fair.gains i p);
            },
      )

  -- what a set weighs later
  weight_later : (S : ℕ → Bool) (m : ℕ) → after m (weight_of (pairs whole whole) t S) ≡ weight_of whole (later m t) S
  weight_later S m =
      after_sum m t.n (λ j. keep (pairs whole whole) (S j) (t.w j))
      ∙ sum_ext whole whole_ordered t.n (λ j. after m (keep (pairs whole whole) (S j) (t.w j))) (λ j. keep whole (S j) (after m (t.w j))) (λ j l. after_keep m (S j) (t.w j))

  -- a set that outweighs all who may receive from it does so from some m on
  pub outweighs_later : (S : ℕ → Bool) → Lt (pairs whole whole) (weight_of (pairs whole whole) t (near t S)) (weight_of (pairs whole whole) t S)
      → Eventually (λ m. Lt whole (weight_of whole (later m t) (near (later m t) S)) (weight_of whole (later m t) S))
  outweighs_later S h =
      let e = after_below (weight_of (pairs whole whole) t (near t S)) (weight_of (pairs whole whole) t S) h in
      (e.0, λ m l. subst (λ z. Lt whole z (weight_of whole (later m t) S)) (weight_later (near t S) m) (subst (λ z. Lt whole (after m (weight_of (pairs whole whole) t (near t S))) z) (weight_later S m) (e.1 m l)))

  -- and then there is no fair plan
  pub fails_later : (S : ℕ → Bool) → Lt (pairs whole whole) (weight_of (pairs whole whole) t (near t S)) (weight_of (pairs whole whole) t S)
      → Eventually (λ m. (y : ℕ → ℕ → ℤ) → Fair whole (later m t) y → ⊥)
  fails_later S h =
      let e = outweighs_later S h in
      (e.0, λ m l y fair. not_both whole whole_ordered (weight_of whole (later m t) (near (later m t) S)) (weight_of whole (later m t) S) (e.1 m l) (no_fair whole whole_ordered (later m t) S y fair))
