use Rattle.std.proofs.Common.{◌∷◌, [], ap, ◌∙◌, subst, append_assoc, decimal, w64, SFits, rules}
use Rattle.std.specs.Fmt.{signed_decimal}
use Rattle.std.proofs.lemmas.Int.{to_z-of_z}
use Rattle.decimals.specs.Texts.{over}
use Rattle.decimals.proofs.Composed.{Put, was_put, followed, at_start}
use Rattle.amounts.proofs.drift.DriftAmount.write_text.Goals as goal

-- the three parts, one after the other
pub returns-clause-bytes : goal.returns-clause-bytes
returns-clause-bytes c =
    let buffer = c.args.buffer.now in
    let weight = decimal c.args.self.weight in
    let change = signed_decimal c.args.self.change in
    let fits : SFits w64 c.args.self.change = search rules in
    let first = was_put buffer 0 weight _ _ _ c.put_number.ensures c.unwrap-weight.ensures in
    let space = was_put _ _ (32 ∷ []) _ _ _ c.put.ensures c.unwrap-space.ensures in
    let last : Put c.put.new.buffer c.unwrap-space.result change c.unwrap.result c.put_number-2.new.buffer =
    subst (λ z. Put c.put.new.buffer c.unwrap-space.result (signed_decimal z) c.unwrap.result c.put_number-2.new.buffer) (to_z-of_z w64 c.args.self.change fits)
    (was_put _ _ _ _ _ _ c.put_number-2.ensures c.unwrap.ensures) in
    (followed buffer _ _ change _ _ _ (followed buffer weight _ (32 ∷ []) _ _ _ first space) last).bytes ∙ at_start buffer _
    ∙ ap (λ text. over text buffer) (append_assoc weight (32 ∷ []) change)
