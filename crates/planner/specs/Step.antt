-- The words of a search in step with the tables of amounts.
use Rattle.std.specs.Prelude.{◌≡◌, ℕ, true, List, length, slice_index}
use Rattle.words.specs.Words.{bit}
use Rattle.groups.specs.Sums.{above}
use Rattle.amounts.specs.Kind.{Kind}
use Rattle.planner.specs.Tables.{row, table, values}

-- the words tell which amounts of the tables are above zero, and the tables hold values
pub record InStep {V : Type 0} (k : Kind V) (givers takers : ℕ) (holders : List ℕ) (xs gs rs : List V) : Type 0 where
  pub transfers : length xs ≡ 4096
  pub gives : length gs ≡ 64
  pub gets : length rs ≡ 64
  pub x_values : values k xs ≡ true
  pub g_values : values k gs ≡ true
  pub r_values : values k rs ≡ true
  pub giving : (j : ℕ) → bit givers j ≡ above k.group (row k gs j)
  pub getting : (i : ℕ) → bit takers i ≡ above k.group (row k rs i)
  pub holding : (j i : ℕ) → bit (slice_index holders i) j ≡ above k.group (table k xs j i)
