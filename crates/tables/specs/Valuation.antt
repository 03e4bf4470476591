-- Valuation: the rates of an age in a dated table, and what they mean.
use Rattle.std.specs.Prelude.{◌≡◌, ℕ, ◌+◌, ◌-◌, ◌≤◌, List, pos, ◌+ℤ◌, neg_ℤ, ◌≤ℤ◌, Err, Option, Result}
use Rattle.std.specs.Option.{option_map, ok_or}
use Rattle.std.specs.Option as Options
use Rattle.std.specs.Result as Results
use Rattle.refusals.specs.declared.Refusal.{Refusal}
use Rattle.refusals.specs.declared.Refusal.TheVariants.{AgeWithoutRow}
use Rattle.tables.specs.declared.row.Row.{Row}
use Rattle.tables.specs.declared.row.Rates.{Rates}
use Rattle.tables.specs.declared.years.Years.{Years}
use Rattle.tables.specs.Falls.{fall_of, odds_after}
use Rattle.tables.specs.Rows.{row_at}

-- how often the yearly fall is taken: once for each year from the base to the valuation
abbrev pub distance : Years → ℕ
distance years = years.valuation - years.base

-- the rates of a row after so many years: the odds left, and as their change minus their fall
abbrev pub rates_after : ℕ → Row → Rates
rates_after years row =
    record {
      odds = odds_after row.fall years row.odds;
      change = neg_ℤ (pos (fall_of row.fall (odds_after row.fall years row.odds)));
    }

-- the rates of an age after so many years: those of its row, and without a row a refusal
abbrev pub rates_at : List (Option Row) → ℕ → ℕ → Result Rates Refusal
rates_at rows years age = ok_or (option_map (rates_after years) (row_at rows age)) AgeWithoutRow

-- what the rates of a row after so many years mean
pub record Valued (row : Row) (years : ℕ) (rates : Rates) : Type 0 where
  -- a valuation in the base year gives the row's odds
  pub base_year : years ≡ 0 → rates.odds ≡ row.odds
  -- a valuation one year later is one fall further: it gives odds plus change
  pub year_later : pos (rates_after (years + 1) row).odds ≡ pos rates.odds +ℤ rates.change
  -- odds stay within 1 to 999,999
  pub odds_low : 1 ≤ rates.odds
  pub odds_high : rates.odds ≤ 999999
  -- and so do odds plus change
  pub next_low : pos 1 ≤ℤ (pos rates.odds +ℤ rates.change)
  pub next_high : (pos rates.odds +ℤ rates.change) ≤ℤ pos 999999
  -- more years never give more odds
  pub never_more : (later : ℕ) → years ≤ later → (rates_after later row).odds ≤ rates.odds

-- what the answer for an age means: the rates of its row, or that it has none
abbrev pub ValuedAt : List (Option Row) → ℕ → ℕ → Result Rates Refusal → Type 0
ValuedAt rows years age answer =
    Options.MatchOption (row_at rows age) (answer ≡ Err AgeWithoutRow) (λ row. Results.MatchResult answer (Valued row years) (λ refusal. ⊥))
