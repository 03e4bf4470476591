-- Which numbers a table and a dating take.
use Rattle.std.specs.Prelude.{ℕ, ◌+◌, Bool, ◌&&◌, nat_le}

-- a base year of 1900 to 2200, and a valuation year from the base to 100 years later
abbrev pub years_fit : ℕ → ℕ → Bool
years_fit base valuation = nat_le 1900 base && nat_le base 2200 && nat_le base valuation && nat_le valuation (base + 100)

-- ages go from 0 to 120
abbrev pub age_fits : ℕ → Bool
age_fits age = nat_le age 120

-- odds, in millionths, go from 1 to 999,999
abbrev pub odds_fit : ℕ → Bool
odds_fit odds = nat_le 1 odds && nat_le odds 999999

-- a yearly fall goes from 0 to 100,000 millionths of the odds
abbrev pub fall_fits : ℕ → Bool
fall_fits fall = nat_le fall 100000
