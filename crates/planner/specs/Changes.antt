-- What a change makes of an amount.
use Rattle.std.specs.Prelude.{Option}
use Rattle.amounts.specs.Kind.{Kind, Stands}
use Rattle.planner.specs.declared.change.Change.{Change}
use Rattle.planner.specs.declared.change.Change.TheVariants.{Add, Take}

-- the amount that is added or taken
abbrev pub amount_of : {V : Type 0} → Change V → V
amount_of (Add d) = d
amount_of (Take d) = d

module _ {V : Type 0} (k : Kind V) where
  -- the element that a change adds
  abbrev pub by : Change V → k.group.Element
  by (Add d) = k.element d
  by (Take d) = k.group.neg (k.element d)

  -- an element after a change
  abbrev pub changed : Change V → k.group.Element → k.group.Element
  changed c e = k.group.plus e (by c)

  -- nothing unless an element is held after a change, and then a value that stands for it
  abbrev pub Changed : Change V → k.group.Element → Option V → Type 0
  Changed c e r = Stands k (k.held (changed c e)) (changed c e) r
