-- The text of a set of members.
use Rattle.std.specs.Prelude.{ℕ, ◌+◌, List, [], ◌∷◌, ◌++◌}
use Rattle.std.specs.Fmt.{decimal}
use Rattle.words.specs.Words.{bit}
use Rattle.words.specs.Sweep.{sweep}

-- a text with one more member at its end: a space, which is byte 32, and the member's number, which is one more than its place
abbrev pub with_member : ℕ → List ℕ → List ℕ
with_member k text = text ++ 32 ∷ decimal (k + 1)

-- the numbers of a set's members in rising order, a space before each
abbrev pub text_of : ℕ → List ℕ
text_of w = sweep (λ k _. bit w k) with_member 64 []
