-- Laws of the yearly fall. All but `fall_below` rest on that law, and not on the rounding.
use Rattle.std.proofs.Common.{◌≡◌, ℕ, zero, suc, ◌+◌, ◌<◌, ◌≤◌, true, add-zero, add-suc, mul-le-mul_left, arith}
use Rattle.tables.specs.Falls.{fall_of, odds_left, odds_after}
use Rattle.tables.specs.Ranges.{odds_fit, fall_fits}

-- a fall of at most a tenth never takes all
pub fall_below : (f odds : ℕ) → f ≤ 100000 → 1 ≤ odds → fall_of f odds < odds
fall_below f odds small some = let product = mul-le-mul_left odds small in omega arith

pub odds_low : (odds : ℕ) → odds_fit odds ≡ true → 1 ≤ odds
odds_low odds h = grind arith

pub odds_high : (odds : ℕ) → odds_fit odds ≡ true → odds ≤ 999999
odds_high odds h = grind arith

module _ (f : ℕ) (small : fall_fits f ≡ true) where
  pub fall_within : (odds : ℕ) → odds_fit odds ≡ true → fall_of f odds < odds
  fall_within odds h = fall_below f odds (grind arith) (odds_low odds h)

  pub left_fits : (odds : ℕ) → odds_fit odds ≡ true → odds_fit (odds_left f odds) ≡ true
  left_fits odds h = grind (arith, fall_within odds h)

  pub after_fits : (odds years : ℕ) → odds_fit odds ≡ true → odds_fit (odds_after f years odds) ≡ true
  after_fits odds zero h = h
  after_fits odds (suc years) h = left_fits (odds_after f years odds) (after_fits odds years h)

-- more years never leave more
pub never_more : (f odds years more : ℕ) → odds_after f (years + more) odds ≤ odds_after f years odds
never_more f odds years zero = rw add-zero (omega arith)
never_more f odds years (suc more) = rw add-suc (omega (arith, never_more f odds years more))
