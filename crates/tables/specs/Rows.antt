-- The rows of a table, by age.
use Rattle.std.specs.Prelude.{ℕ, Bool, true, not, ◌&&◌, List, [], ◌∷◌, replicate, Some, None, Option, slice_index_or, slice_set}
use Rattle.refusals.specs.declared.Refusal.{Refusal}
use Rattle.refusals.specs.declared.Refusal.TheVariants.{RowNumber}
use Rattle.refusals.specs.Judged.{first_of}
use Rattle.tables.specs.declared.row.Row.{Row}
use Rattle.tables.specs.Ranges.{age_fits, odds_fit, fall_fits}

-- the rows of a new table: none
abbrev pub no_rows : List (Option Row)
no_rows = replicate 121 None

-- the row of an age, or nothing
abbrev pub row_at : List (Option Row) → ℕ → Option Row
row_at rows age = slice_index_or rows age None

-- the rows with one more; it replaces an earlier row of its age
abbrev pub with_row : List (Option Row) → ℕ → Row → List (Option Row)
with_row rows age row = slice_set rows age (Some row)

-- the numbers of a row are in range
abbrev pub row_fits : Row → Bool
row_fits row = odds_fit row.odds && fall_fits row.fall

-- a row, where there is one, is in range
abbrev pub entry_fits : Option Row → Bool
entry_fits None = true
entry_fits (Some row) = row_fits row

-- every row that is there is in range
abbrev pub rows_fit : List (Option Row) → Bool
rows_fit [] = true
rows_fit (entry ∷ rows) = entry_fits entry && rows_fit rows

-- why a row is not taken
abbrev pub row_refusal : ℕ → Row → Option Refusal
row_refusal age row = first_of ((not (age_fits age && row_fits row), RowNumber) ∷ [])
