-- The tables of a plan call, read as group elements by giver and receiver.
use Rattle.std.specs.Prelude.{ℕ, zero, suc, ◌+◌, ◌*◌, Bool, true, cond, ◌&&◌, List, [], ◌∷◌, nat_lt}
use Rattle.amounts.specs.Kind.{Kind}
use Rattle.flow.specs.Flow.{State}

module _ {V : Type 0} (k : Kind V) where
  -- the element at a place of a table, and zero past its end
  unfoldable pub row : List V → ℕ → k.group.Element
  row [] p = k.group.nil
  row (v ∷ vs) zero = k.element v
  row (v ∷ vs) (suc p) = row vs p

  -- the transfer from giver j to receiver i, at place 64 j + i
  unfoldable pub table : List V → ℕ → ℕ → k.group.Element
  table xs j i = cond (nat_lt i 64) (row xs (64 * j + i)) k.group.nil

  -- every entry of a table is a value of the kind
  unfoldable pub values : List V → Bool
  values [] = true
  values (v ∷ vs) = k.value v && values vs

  -- the state that the three tables stand for
  abbrev pub state_of : List V → List V → List V → State k.group.Element
  state_of xs gs rs = record { x = table xs; g = row gs; r = row rs }
