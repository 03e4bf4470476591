-- The step along a way, put together from its parts.
use Rattle.std.proofs.Common.{◌≡◌, true, sym, ap, ◌∙◌}
use Rattle.std.proofs.lemmas.Bool.{and_parts}
use Rattle.groups.specs.Sums.{minus}
use Rattle.flow.specs.Routes.{taken}
use Rattle.amounts.specs.declared.Amount.{Ghosts}
use Rattle.planner.specs.declared.tables.Tables.{Tables}
use Rattle.planner.specs.declared.way.Way.{Way}
use Rattle.planner.specs.Along.{links, least_on, fits_on, held_on, writable_on, moved_on, stepped_on}
use Rattle.planner.specs.Same.{state}
use Rattle.planner.specs.Tables.{row, table}

-- d is the least amount on the way
module _ {V : Type 0} {g : Ghosts V} (t : Tables V g) (y : Way) (d : g.kind.group.Element) (least : d ≡ least_on t y) where
  pub fits_least : fits_on t y d ≡ fits_on t y (least_on t y)
  fits_least = ap (fits_on t y) least

  module _ (fits : fits_on t y d ≡ true) where
    pub give_room : g.kind.held (minus g.kind.group (row g.kind t.to_give.now (links t y).first) d) ≡ true
    give_room = (and_parts _ _ (and_parts (held_on t y d) _ fits).1).0

    pub get_room : g.kind.held (minus g.kind.group (row g.kind t.to_get.now y.receiver) d) ≡ true
    get_room = (and_parts _ _ (and_parts (held_on t y d) _ fits).1).1

    pub writable : writable_on t y (least_on t y) ≡ held_on t y (least_on t y) → writable_on t y d ≡ true
    writable apart = ap (writable_on t y) least ∙ apart ∙ ap (held_on t y) (sym least) ∙ (and_parts _ _ fits).0

  pub step_done : (u : Tables V g) → table g.kind u.transfers.now ≡ moved_on t y d
      → row g.kind u.to_give.now ≡ taken g.kind.group (row g.kind t.to_give.now) (links t y).first d
      → row g.kind u.to_get.now ≡ taken g.kind.group (row g.kind t.to_get.now) y.receiver d
      → state u ≡ stepped_on t y
  step_done u a b c =
      λ i. record {
        x = (a ∙ ap (moved_on t y) least) i;
        g = (b ∙ ap (taken g.kind.group (row g.kind t.to_give.now) (links t y).first) least) i;
        r = (c ∙ ap (taken g.kind.group (row g.kind t.to_get.now) y.receiver) least) i;
      }
