-- Texts written one after another into a buffer.
use Rattle.std.proofs.Common.{◌≡◌, ℕ, ◌+◌, List, ◌++◌, length, drop, Some, None, Ok, Option, Result, refl, sym, ap, ◌∙◌, append_assoc, zero-add, arith, length-append}
use Rattle.std.proofs.lemmas.List.{take_at, drop_at, drop-drop}
use Rattle.refusals.specs.declared.Refusal.{Refusal}
use Rattle.refusals.specs.Judged.{judged, left}
use Rattle.decimals.specs.Texts.{written, over, room_refusal, Puts}

-- a call that answered a place has put its text there, and its place is the end
pub record Put (before : List ℕ) (at : ℕ) (text : List ℕ) (end : ℕ) (after : List ℕ) : Type 0 where
  pub place : end ≡ at + length text
  pub bytes : after ≡ written at text before

pub was_put : (before : List ℕ) (at : ℕ) (text : List ℕ) (answer : Result ℕ Refusal) (after : List ℕ) (end : ℕ)
    → Puts before at text answer after → answer ≡ Ok end → Put before at text end after
was_put before at text answer after end puts e = go (room_refusal before at text) puts.place puts.bytes
  where
    go : (refusal : Option Refusal) → answer ≡ judged refusal (at + length text) → after ≡ left refusal before (written at text before)
        → Put before at text end after
    go None place bytes = record { place = same (sym e ∙ place); bytes = bytes }
      where
        same : {m n : ℕ} → ◌≡◌ {A = Result ℕ Refusal} (Ok m) (Ok n) → m ≡ n
        same q = cc
    go (Some refusal) place bytes = absurd (never (sym e ∙ place))
      where
        never : ◌≡◌ {A = Result ℕ Refusal} (Ok end) (judged (Some refusal) (at + length text)) → ⊥
        never q = cc

-- a text written where another ends stands after it
pub one_after_another : (before text more : List ℕ) → written (length text) more (over text before) ≡ over (text ++ more) before
one_after_another before text more =
    ap (λ f. f ++ (more ++ drop (length text + length more) (over text before))) (take_at text (drop (length text) before) (length text) refl)
    ∙ ap (λ r. text ++ (more ++ r)) rest
    ∙ sym (append_assoc text more (drop (length (text ++ more)) before))
  where
    rest : drop (length text + length more) (over text before) ≡ drop (length (text ++ more)) before
    rest =
        sym (drop-drop (length more) (length text) (over text before)) ∙ ap (drop (length more)) (drop_at text (drop (length text) before) (length text) refl)
        ∙ drop-drop (length more) (length text) before ∙ ap (λ k. drop k before) (sym (length-append text more))

-- a text at the beginning
pub at_start : (before text : List ℕ) → written 0 text before ≡ over text before
at_start before text = ap (λ k. text ++ drop k before) (zero-add (length text))

-- a text put after one at the beginning makes one text of the two
pub followed : (before text now more after : List ℕ) (here end : ℕ) → Put before 0 text here now → Put now here more end after
    → Put before 0 (text ++ more) end after
followed before text now more after here end first second =
    record {
      place = omega (arith, first.place, second.place, length-append text more);
      bytes =
          second.bytes ∙ ap (λ n. written n more now) (first.place ∙ zero-add (length text)) ∙ ap (written (length text) more) (first.bytes ∙ at_start before text)
          ∙ one_after_another before text more ∙ sym (at_start before (text ++ more));
    }
