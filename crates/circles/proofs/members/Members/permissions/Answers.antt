use Rattle.std.proofs.Common.{◌≡◌, ℕ, ◌<◌, ◌≤◌, sym, ap, ◌∙◌, ⊎_elim, rules, arith}
use Rattle.std.proofs.lemmas.Bool.{cases_lt}
use Rattle.std.proofs.lemmas.List.{get_or_past}
use Rattle.words.specs.Words.{bit}
use Rattle.words.proofs.Digits.{bit_zero}
use Rattle.circles.specs.Tasks.{permits}
use Rattle.circles.proofs.Made.{entries}
use Rattle.circles.proofs.Permissions.{no_giver}
use Rattle.circles.proofs.members.Members.permissions.Goals as goal

pub returns-clause-words : goal.returns-clause-words
returns-clause-words c j i =
    let ms = c.args.self.now in
    let ws = c.from_fn.result in
    ⊎_elim
    (λ (l : j < 64).
    entries _ (λ k w. (i : ℕ) → bit w i ≡ permits ms k i) _ (λ k w q h. (search rules, search rules)) ws 0 0 64 c.from_fn.ensures.items.each j (omega arith) (omega arith) i)
    (λ (l : 64 ≤ j). ap (λ w. bit w i) (get_or_past ws j 0 (omega arith)) ∙ bit_zero i ∙ sym (no_giver ms c.requires.bounded j i (omega arith)))
    (cases_lt j 64)
