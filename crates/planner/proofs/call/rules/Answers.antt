use Rattle.std.proofs.Common.{◌&&◌, ltb, get_or, sym, refl, ap, ◌∙◌, arith}
use Rattle.words.specs.Words.{bit}
use Rattle.words.proofs.Digits.{bit_zero}
use Rattle.std.proofs.lemmas.Bool.{and_left, le-ltb}
use Rattle.planner.proofs.Begins.{zeros}
use Rattle.planner.proofs.call.rules.Goals as goal

pub loop-j-init : goal.loop-j-init
loop-j-init c = (
  refl,
  λ a i.
      ap (λ v. bit v i) (zeros 64 a) ∙ bit_zero i ∙ sym (and_left (ltb a 0) (ltb i c.args.n && bit (get_or c.args.permissions.now a 0) i) (le-ltb a 0 (omega arith))),
)
