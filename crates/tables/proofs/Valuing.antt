-- What the rates of a row mean.
use Rattle.std.proofs.Common.{◌≡◌, ℕ, ◌-◌, ◌<◌, ◌≤◌, true, pos, ◌+ℤ◌, neg_ℤ, ap, sym, subst, add-one, arith}
use Rattle.std.proofs.lemmas.Int.{ints}
use Rattle.std.proofs.lemmas.Bool.{and_parts}
use Rattle.tables.specs.declared.row.Row.{Row}
use Rattle.tables.specs.declared.row.Rates.{Rates}
use Rattle.tables.specs.Falls.{fall_of, odds_left, odds_after}
use Rattle.tables.specs.Ranges.{odds_fit, fall_fits}
use Rattle.tables.specs.Rows.{row_fits}
use Rattle.tables.specs.Valuation.{rates_after, Valued}
use Rattle.tables.proofs.Falling.{odds_low, odds_high, after_fits, left_fits, fall_within, never_more}

-- odds less a part of them are odds plus the negative of that part
taken : (odds part : ℕ) → part < odds → pos (odds - part) ≡ pos odds +ℤ neg_ℤ (pos part)
taken odds part h = omega (arith, ints)

module _ (row : Row) (fits : row_fits row ≡ true) (years : ℕ) where
  parts : (odds_fit row.odds ≡ true) × (fall_fits row.fall ≡ true)
  parts = and_parts (odds_fit row.odds) (fall_fits row.fall) fits

  -- the odds after so many years, and those of the year after
  abbrev odds : ℕ
  odds = odds_after row.fall years row.odds

  odds_fit_after : odds_fit odds ≡ true
  odds_fit_after = after_fits row.fall parts.1 row.odds years parts.0

  next : pos (odds_left row.fall odds) ≡ pos odds +ℤ neg_ℤ (pos (fall_of row.fall odds))
  next = taken odds (fall_of row.fall odds) (fall_within row.fall parts.1 odds odds_fit_after)

  next_fits : odds_fit (odds_left row.fall odds) ≡ true
  next_fits = left_fits row.fall parts.1 odds odds_fit_after

  pub valued : Valued row years (rates_after years row)
  valued =
      record {
        base_year = λ e. ap (λ n. odds_after row.fall n row.odds) e;
        year_later = rw add-one next;
        odds_low = odds_low odds odds_fit_after;
        odds_high = odds_high odds odds_fit_after;
        next_low = omega (arith, ints, next, odds_low (odds_left row.fall odds) next_fits);
        next_high = omega (arith, ints, next, odds_high (odds_left row.fall odds) next_fits);
        never_more = λ later more. subst (λ n. odds_after row.fall n row.odds ≤ odds) (omega arith) (never_more row.fall row.odds years (later - years));
      }

-- and so of what they are found to be
pub meant : (row : Row) (years : ℕ) (rates : Rates) → row_fits row ≡ true → rates ≡ rates_after years row → Valued row years rates
meant row years rates fits same = subst (Valued row years) (sym same) (valued row fits years)
