-- Odds at valuation that were worked out by hand.
use Rattle.std.specs.Prelude.{◌≡◌, List, [], ◌∷◌}
use Rattle.std.specs.List.{AllByRecursion}
use Rattle.tables.specs.declared.worked.Worked.{Worked}
use Rattle.tables.specs.Valuation.{rates_after}

-- the rows, the years from base to valuation, and the odds at valuation
abbrev pub worked_values : List Worked
worked_values =
    -- 12,000 falls by 120, and 11,880 by 118.8
    record { row = record { odds = 12000; fall = 10000 }; years = 2; odds = 11761 }
    -- 5 falls by 0.5, which goes upward
    ∷ record { row = record { odds = 5; fall = 100000 }; years = 1; odds = 4 }
    -- 15 falls by 1.5, which goes upward, and 13 by 1.3
    ∷ record { row = record { odds = 15; fall = 100000 }; years = 2; odds = 12 }
    -- the largest odds and fall: 99,999.9
    ∷ record { row = record { odds = 999999; fall = 100000 }; years = 1; odds = 899999 }
    -- the longest distance: one a year while at least 50 are left, so 49 after 51 years, and then nothing more
    ∷ record { row = record { odds = 100; fall = 10000 }; years = 100; odds = 49 }
    ∷ []

-- the definition of odds at valuation gives each of them
abbrev pub WorkedOut : Type 0
WorkedOut = AllByRecursion (λ w. (rates_after w.years w.row).odds ≡ w.odds) worked_values
