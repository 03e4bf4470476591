-- The yearly fall of odds: how odds shrink from year to year.
use Rattle.std.specs.Prelude.{ℕ, zero, suc, ◌+◌, ◌-◌, ◌*◌, ◌/◌}

-- the fall of odds in one year, at f millionths of them: odds × f / 1,000,000 to the nearest, a half upward
abbrev pub fall_of : ℕ → ℕ → ℕ
fall_of f odds = (odds * f + 500000) / 1000000

-- the odds left when the fall of one year is taken from them
abbrev pub odds_left : ℕ → ℕ → ℕ
odds_left f odds = odds - fall_of f odds

-- the odds left after so many years, each fall taken from the odds that the years before have left
abbrev pub odds_after : ℕ → ℕ → ℕ → ℕ
odds_after f zero odds = odds
odds_after f (suc years) odds = odds_left f (odds_after f years odds)
