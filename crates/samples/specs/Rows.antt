-- A sample mortality table.
use Rattle.std.specs.Prelude.{ℕ, List, [], ◌∷◌, Option}
use Rattle.std.specs.List.{fold}
use Rattle.tables.specs.declared.row.Row.{Row}
use Rattle.tables.specs.Rows.{no_rows, with_row}

-- the rows with one more: an age, its odds and the yearly fall of these
abbrev pub with_entry : List (Option Row) → ℕ × ℕ × ℕ → List (Option Row)
with_entry rows (age, odds, fall) = with_row rows age (record { odds = odds; fall = fall })

-- a dozen ages with their odds and the yearly fall of these
abbrev pub sample : List (ℕ × ℕ × ℕ)
sample =
    (40, 1200, 18000) ∷ (45, 1900, 18000) ∷ (50, 3100, 17000) ∷ (55, 5000, 16000) ∷ (60, 8000, 15000) ∷ (65, 12000, 14000)
    ∷ (70, 19500, 12000) ∷ (75, 32000, 10000) ∷ (80, 54000, 8000) ∷ (85, 92000, 5000) ∷ (90, 152000, 2500) ∷ (95, 240000, 1000) ∷ []

-- the rows of the sample table
abbrev pub sample_rows : List (Option Row)
sample_rows = fold with_entry no_rows sample
