-- Rows that are in range.
use Rattle.std.proofs.Common.{◌≡◌, ℕ, ◌<◌, Bool, true, ◌&&◌, List, length, get_or}
use Rattle.std.specs.List.{list_all}
use Rattle.std.proofs.lemmas.List.Sums.{AllPass-from_list_all}
use Rattle.tables.specs.Ranges.{age_fits}
use Rattle.tables.specs.Rows.{row_fits}

-- the numbers of a row and its age are in range
abbrev pub entry_in_range : ℕ × ℕ × ℕ → Bool
entry_in_range (age, odds, fall) = age_fits age && row_fits (record { odds = odds; fall = fall })

-- those of every entry are
pub record InRange (xs : List (ℕ × ℕ × ℕ)) : Type 0 where
  pub at : (i : ℕ) → i < length xs → entry_in_range (get_or xs i (0, 0, 0)) ≡ true

pub all_in_range : (xs : List (ℕ × ℕ × ℕ)) → list_all entry_in_range xs ≡ true → InRange xs
all_in_range xs all = record { at = λ i l. AllPass-from_list_all entry_in_range xs all i (0, 0, 0) l }
