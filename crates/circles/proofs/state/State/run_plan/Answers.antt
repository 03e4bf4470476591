use Rattle.std.proofs.Common.{◌≡◌, length, sym, ◌∙◌, subst, arith}
use Rattle.circles.specs.Plans.{PlanMeans}
use Rattle.circles.specs.Sound.{Sound}
use Rattle.circles.proofs.Planning.{planned_settled, settled_sound, settled_means}
use Rattle.circles.proofs.state.State.run_plan.Goals as goal

pub returns : goal.returns
returns c =
    let s = c.args.self.now in
    let a = c.ask-answer.result in
    let xs = c.ask-answer.new.transfers in
    let gs = c.ask-answer.new.to_give in
    let rs = c.ask-answer.new.to_get in
    let size : length xs ≡ 4096 = omega (arith, c.ask-answer.auto.transfers, c.requires.sound.shaped) in
    let P = c.ask-answer.ensures in
    record {
      answer = P.ran.answer;
      after = c.settle.ensures ∙ planned_settled s a xs gs rs size P;
      means = subst (PlanMeans s.members a) (sym c.settle.ensures) (settled_means s a xs gs rs size P);
      sound = subst Sound (sym c.settle.ensures) (settled_sound s a xs gs rs size P c.requires.sound);
    }
