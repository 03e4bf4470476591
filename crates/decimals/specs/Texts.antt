-- Texts that are written into a buffer.
use Rattle.std.specs.Prelude.{◌≡◌, ℕ, ◌+◌, List, [], ◌∷◌, ◌++◌, length, take, drop, Option, Result, nat_lt}
use Rattle.refusals.specs.declared.Refusal.{Refusal}
use Rattle.refusals.specs.declared.Refusal.TheVariants.{Length}
use Rattle.refusals.specs.Judged.{first_of, judged, left}

-- the buffer with a text written over it from a place on
abbrev pub written : ℕ → List ℕ → List ℕ → List ℕ
written at text buffer = take at buffer ++ (text ++ drop (at + length text) buffer)

-- the buffer with a text written over its beginning
abbrev pub over : List ℕ → List ℕ → List ℕ
over text buffer = text ++ drop (length text) buffer

-- why a text is not written at a place: it would pass the buffer's end
abbrev pub room_refusal : List ℕ → ℕ → List ℕ → Option Refusal
room_refusal buffer at text = first_of ((nat_lt (length buffer) (at + length text), Length) ∷ [])

-- what writing a text at a place answers and leaves: the place after it, and the text over what was there; or a
-- refusal, and the buffer as found
pub record Puts (before : List ℕ) (at : ℕ) (text : List ℕ) (answer : Result ℕ Refusal) (after : List ℕ) : Type 0 where
  pub place : answer ≡ judged (room_refusal before at text) (at + length text)
  pub bytes : after ≡ left (room_refusal before at text) before (written at text before)
