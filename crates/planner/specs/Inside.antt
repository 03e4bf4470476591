-- Marks of a search within n members.
use Rattle.std.specs.Prelude.{◌≡◌, ℕ, ◌<◌, List, length, slice_index, replicate, Option, Some, None}
use Rattle.std.specs.Borrow.{Bor}
use Rattle.planner.specs.declared.state.Marks.{Marks}

-- the marks that a way goes back by; a way that has none is one link, and nobody looks at them
abbrev pub marks_of : Option (Bor Marks) → Marks
marks_of None = record { from = replicate 64 0; via = replicate 64 0 }
marks_of (Some m) = m.now

-- the member that is marked at each place, if there are members, is one of them
pub record Inside (n : ℕ) (from via : List ℕ) : Type 0 where
  pub froms : length from ≡ 64
  pub vias : length via ≡ 64
  pub sources : (i : ℕ) → 0 < n → slice_index from i < n
  pub bridges : (k : ℕ) → 0 < n → slice_index via k < n
