-- A way that is walked back, one link at a time.
use Rattle.std.specs.Prelude.{◌≡◌, suc, true, false, ◌⊎◌, Option, MatchOption, slice_index}
use Rattle.words.specs.Words.{bit}
use Rattle.planner.specs.declared.state.Link.{Link}
use Rattle.planner.specs.declared.state.Words.{Words}
use Rattle.planner.specs.declared.way.Hops.{Hops}
use Rattle.planner.specs.declared.way.Way.{Way}
use Rattle.planner.specs.Inside.{marks_of}

-- the way is one among these members and givers
pub record Among (w : Words) (y : Way) : Type 0 where
  pub members : y.members ≡ w.n
  pub givers : y.givers ≡ w.givers

-- the walk stands where the way ends, at the giver from whom its receiver was seen
pub record Begins (y : Way) (s : Hops) : Type 0 where
  pub way : s.way ≡ y
  pub turns : s.turns ≡ y.members
  pub giver : s.giver ≡ y.last

-- the way starts from the giver where the walk stands, or it is as long as it may be
pub record Ends (s t : Hops) : Type 0 where
  pub starts : (s.turns ≡ 0) ⊎ (bit s.way.givers s.giver ≡ true)
  pub giver : t.giver ≡ s.giver

-- the way goes on: back from its giver through a receiver, and to the giver from whom that receiver was seen
pub record GoesOn (s : Hops) (l : Link) (t : Hops) : Type 0 where
  pub turns : s.turns ≡ suc t.turns
  pub empty : bit s.way.givers s.giver ≡ false
  pub giver : l.giver ≡ s.giver
  pub receiver : l.receiver ≡ slice_index (marks_of s.way.marks).via s.giver
  pub further : t.giver ≡ slice_index (marks_of s.way.marks).from l.receiver
  pub way : t.way ≡ s.way

-- what walking one link gives
abbrev pub Gives : Hops → Option Link → Hops → Type 0
Gives s r t = MatchOption r (Ends s t) (λ l. GoesOn s l t)
