use Rattle.std.proofs.Common.{◌≡◌}
use Rattle.tables.specs.Falls.{odds_after}
use Rattle.tables.proofs.falls.Falling.after.Given as goal

abbrev pub invariant-loop-year : goal.invariant-loop-year
invariant-loop-year l = record { odds : l.falling.odds ≡ odds_after l.fn.self.fall l._year l.fn.self.odds; fall : l.falling.fall ≡ l.fn.self.fall }
