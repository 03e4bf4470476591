-- What a call that may be refused answers, and what it leaves behind.
use Rattle.std.specs.Prelude.{Bool, cond, List, [], ◌∷◌, Some, None, Ok, Err, Option, Result}

-- the first refusal of a list whose test holds, in the list's order
abbrev pub first_of : {E : Type 0} → List (Bool × E) → Option E
first_of [] = None
first_of (t ∷ ts) = cond t.0 (Some t.1) (first_of ts)

-- the answer of a call: the refusal where there is one, else x
abbrev pub judged : {X E : Type 0} → Option E → X → Result X E
judged None x = Ok x
judged (Some e) x = Err e

-- what a call leaves: all as found where it is refused, else the new
abbrev pub left : {X E : Type 0} → Option E → X → X → X
left None found new = new
left (Some e) found new = found
