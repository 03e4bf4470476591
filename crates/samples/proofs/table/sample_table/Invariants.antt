use Rattle.std.proofs.Common.{◌≡◌, take}
use Rattle.std.specs.List.{fold}
use Rattle.tables.specs.Rows.{no_rows}
use Rattle.samples.specs.Rows.{with_entry}
use Rattle.samples.proofs.Fits.{InRange}
use Rattle.samples.proofs.table.sample_table.Given as goal

abbrev pub invariant-loop-age : goal.invariant-loop-age
invariant-loop-age l = (l.table.rows ≡ fold with_entry no_rows (take l.age-index l.age-items)) × InRange l.age-items
