-- Money and drift weigh members as the planner takes it.
use Rattle.std.proofs.Common.{◌≡◌, ℕ, zero, suc, ◌*◌, ◌≤◌, true, ℤ, pos, negsuc, ◌*ℤ◌, neg_ℤ, ◌≤ℤ◌, sym, refl, ap, ◌∙◌, subst, zero-mul, arith}
use lib.IntN.{zero-*ℤ, pos-*ℤ-pos, pos-*ℤ-negsuc}
use Rattle.std.proofs.lemmas.Nat.{mul-le}
use Rattle.std.proofs.lemmas.Int.{ints}
use Rattle.std.proofs.lemmas.Bool.Decides.{nat_tests}
use Rattle.tables.specs.declared.row.Rates.{Rates}
use Rattle.amounts.specs.Moneys.{money}
use Rattle.amounts.specs.Drifts.{drift}
use Rattle.planner.specs.Calls.{weight_fits}
use Rattle.circles.specs.declared.member.Member.{Member}
use Rattle.circles.specs.Calls.{rates_fit}
use Rattle.circles.specs.Tasks.{weight_in, change_in, money_of, drift_of}
use Rattle.circles.specs.Weighing.{Weighable, Weighing}

-- a balance times a yearly change of odds is at least -10^18
pub product_low : (b : ℕ) (z : ℤ) → b ≤ 1000000000000 → neg_ℤ (pos 1000000) ≤ℤ z → neg_ℤ (pos 1000000000000000000) ≤ℤ (pos b *ℤ z)
product_low b (pos n) h l = subst (λ p. neg_ℤ (pos 1000000000000000000) ≤ℤ p) (sym (pos-*ℤ-pos b n)) (omega (arith, ints))
product_low b (negsuc n) h l =
    let m : b * suc n ≤ 1000000000000 * 1000000 = mul-le b (suc n) 1000000000000 1000000 h (omega (arith, ints)) in
    subst (λ p. neg_ℤ (pos 1000000000000000000) ≤ℤ p) (sym (pos-*ℤ-negsuc b n)) (omega (arith, ints))

-- and at most 10^18
pub product_high : (b : ℕ) (z : ℤ) → b ≤ 1000000000000 → z ≤ℤ pos 1000000 → (pos b *ℤ z) ≤ℤ pos 1000000000000000000
product_high b (pos n) h l =
    let m : b * n ≤ 1000000000000 * 1000000 = mul-le b n 1000000000000 1000000 h (omega (arith, ints)) in
    subst (λ p. p ≤ℤ pos 1000000000000000000) (sym (pos-*ℤ-pos b n)) (omega (arith, ints))
product_high b (negsuc n) h l = subst (λ p. p ≤ℤ pos 1000000000000000000) (sym (pos-*ℤ-negsuc b n)) (omega (arith, ints))

-- of rates in range, the change is at least -10^6
pub change_low : (r : Rates) → rates_fit r ≡ true → neg_ℤ (pos 1000000) ≤ℤ r.change
change_low r h = grind (arith, nat_tests, ints)

-- and at most 10^6
pub change_high : (r : Rates) → rates_fit r ≡ true → r.change ≤ℤ pos 1000000
change_high r h = grind (arith, nat_tests, ints)

odds_low : (r : Rates) → rates_fit r ≡ true → 1 ≤ r.odds
odds_low r h = grind (arith, nat_tests)

odds_high : (r : Rates) → rates_fit r ≡ true → r.odds ≤ 999999
odds_high r h = grind (arith, nat_tests)

money_ok : (w : ℕ) → w ≤ 1000000000000000000 → weight_fits money (record { 0 = w }) ≡ true
money_ok w h = grind (arith, nat_tests, ints)

-- a weight with a change is at least zero if no weight has no change
drift_ok : (w : ℕ) (c : ℤ) → w ≤ 1000000000000000000 → neg_ℤ (pos 1000000000000000000) ≤ℤ c → c ≤ℤ pos 1000000000000000000 → (w ≡ 0 → c ≡ pos 0)
    → weight_fits drift (record { weight = w; change = c }) ≡ true
drift_ok zero c h low high none = subst (λ c. weight_fits drift (record { weight = 0; change = c }) ≡ true) (sym (none refl)) refl
drift_ok (suc w) c h low high none = grind (arith, nat_tests, ints)

factor_zero : (b o : ℕ) → 1 ≤ o → b * o ≡ 0 → b ≡ 0
factor_zero zero o l e = refl
factor_zero (suc b) o l e = let m = mul-le 1 1 (suc b) o (omega arith) l in absurd (let z : ⊥ = omega arith in z)

weight_high : (m : Member) → Weighable m → weight_in m ≤ 1000000000000000000
weight_high m h = omega (arith, mul-le m.balance m.rates.odds 1000000000000 999999 h.most (odds_high m.rates h.rated))

weight_none : (m : Member) → m.balance ≡ 0 → weight_in m ≡ 0
weight_none m e = ap (λ b. b * m.rates.odds) e ∙ zero-mul m.rates.odds

change_none : (m : Member) → m.balance ≡ 0 → change_in m ≡ pos 0
change_none m e = ap (λ b. pos b *ℤ m.rates.change) e ∙ zero-*ℤ m.rates.change

-- the weights of members in money are weights that the planner takes
pub money_weighing : Weighing money money_of
money_weighing = record { fits = λ m h. money_ok (weight_in m) (weight_high m h); none = λ m e. ap pos (weight_none m e) }

-- and so are those in drift
pub drift_weighing : Weighing drift drift_of
drift_weighing =
    record {
      fits = λ m h.
          let low = product_low m.balance m.rates.change h.most (change_low m.rates h.rated) in
          let high = product_high m.balance m.rates.change h.most (change_high m.rates h.rated) in
          drift_ok (weight_in m) (change_in m) (weight_high m h) low high (λ z. change_none m (factor_zero m.balance m.rates.odds (odds_low m.rates h.rated) z));
      none = λ m e i. record { upper = pos (weight_none m e i); lower = change_none m e i };
    }
