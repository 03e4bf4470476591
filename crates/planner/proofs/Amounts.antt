-- What is read from the tables of a run; d stands for what would be read past their ends.
use Rattle.std.proofs.Common.{◌≡◌, ℕ, ◌+◌, ◌*◌, ◌<◌, List, get_or, subst, arith}
use Rattle.amounts.specs.declared.Amount.{Ghosts}
use Rattle.amounts.specs.Kind.{StandsFor}
use Rattle.planner.specs.declared.tables.Tables.{Tables}
use Rattle.planner.specs.Tables.{row, table}
use Rattle.planner.proofs.Entries.{row_read, table_read, value_read}

module _ {V : Type 0} {g : Ghosts V} (t : Tables V g) where
  pub transfer_at : (j i : ℕ) (d : V) → j < t.words.n → i < t.words.n → StandsFor g.kind (get_or t.transfers.now (64 * j + i) d) (table g.kind t.transfers.now j i)
  transfer_at j i d a b = (
    value_read g.kind t.transfers.now (64 * j + i) d (omega (arith, t.kept.transfers, t.words.fitted.size)) t.kept.x_values,
    table_read g.kind t.transfers.now j i d t.kept.transfers (omega (arith, t.words.fitted.size)) (omega (arith, t.words.fitted.size)),
  )

  pub give_at : (j : ℕ) (d : V) → j < t.words.n → StandsFor g.kind (get_or t.to_give.now j d) (row g.kind t.to_give.now j)
  give_at j d a = (
    value_read g.kind t.to_give.now j d (omega (arith, t.kept.gives, t.words.fitted.size)) t.kept.g_values,
    row_read g.kind t.to_give.now j d (omega (arith, t.kept.gives, t.words.fitted.size)),
  )

  pub get_at : (i : ℕ) (d : V) → i < t.words.n → StandsFor g.kind (get_or t.to_get.now i d) (row g.kind t.to_get.now i)
  get_at i d a = (
    value_read g.kind t.to_get.now i d (omega (arith, t.kept.gets, t.words.fitted.size)) t.kept.r_values,
    row_read g.kind t.to_get.now i d (omega (arith, t.kept.gets, t.words.fitted.size)),
  )

  -- the same where the table is as it was
  pub give_still : (l : List V) → t.to_give.now ≡ l → (j : ℕ) (d : V) → j < t.words.n → StandsFor g.kind (get_or t.to_give.now j d) (row g.kind l j)
  give_still l e j d a = subst (λ m. StandsFor g.kind (get_or t.to_give.now j d) (row g.kind m j)) e (give_at j d a)

  pub get_still : (l : List V) → t.to_get.now ≡ l → (i : ℕ) (d : V) → i < t.words.n → StandsFor g.kind (get_or t.to_get.now i d) (row g.kind l i)
  get_still l e i d a = subst (λ m. StandsFor g.kind (get_or t.to_get.now i d) (row g.kind m i)) e (get_at i d a)
