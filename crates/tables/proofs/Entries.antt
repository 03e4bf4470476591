-- Every row of a table is in range, and stays so.
use Rattle.std.proofs.Common.{◌≡◌, ℕ, zero, suc, true, List, [], ◌∷◌, slice_set, Some, Option, refl, sym, subst, arith}
use Rattle.tables.specs.declared.row.Row.{Row}
use Rattle.tables.specs.Rows.{entry_fits, rows_fit, row_fits, row_at}

-- a row in range keeps them in range
pub fit_set : (rows : List (Option Row)) (age : ℕ) (row : Row) → rows_fit rows ≡ true → true ≡ row_fits row
    → rows_fit (slice_set rows age (Some row)) ≡ true
fit_set [] age row h r = refl
fit_set (e ∷ rows) zero row h r = grind (arith, r, h)
fit_set (e ∷ rows) (suc age) row h r = grind (arith, h, fit_set rows age row)

-- and so the row of an age is in range
fit_at : (rows : List (Option Row)) (age : ℕ) → rows_fit rows ≡ true → entry_fits (row_at rows age) ≡ true
fit_at [] age h = refl
fit_at (e ∷ rows) zero h = grind (arith, h)
fit_at (e ∷ rows) (suc age) h = grind (arith, h, fit_at rows age)

pub fit_row : (rows : List (Option Row)) (age : ℕ) (row : Row) → rows_fit rows ≡ true → Some row ≡ row_at rows age → row_fits row ≡ true
fit_row rows age row h found = subst (λ entry. entry_fits entry ≡ true) (sym found) (fit_at rows age h)
