use Rattle.std.proofs.Common.{◌≡◌, None, ap, ◌∙◌, subst, arith}
use Rattle.std.proofs.lemmas.Grind.{common_steps}
use Rattle.std.proofs.lemmas.Result.{IfOk-at_ok}
use Rattle.planner.specs.Calls.{plan_refusal}
use Rattle.circles.specs.Answered.{Answered}
use Rattle.circles.specs.Tasks.{posed_by}
use Rattle.circles.proofs.Permissions.{words_all_fit, asked_posed, answered, unrefused}
use Rattle.circles.proofs.Weights.{weights_all_fit, weights_are}
use Rattle.circles.proofs.ask.ask.Goals as goal

pub unwrap-requires : goal.unwrap-requires
unwrap-requires g c =
    let k = g.K.Amount.kind in
    let ms = c.args.members.now in
    let h = c.requires.manned in
    let ws = c.weights-weights in
    let ps = c.permissions-permissions in
    let none : plan_refusal k ms.count ws.result ps.result c.args.transfers.now c.args.to_give.now c.args.to_get.now ≡ None =
    unrefused k ms.count ws.result ps.result c.args.transfers.now c.args.to_give.now c.args.to_get.now
    ws.ensures.size ps.ensures.size c.requires.transfers c.requires.gives c.requires.gets c.requires.some h.room
    (words_all_fit ms h.bounded ps.result ps.ensures.small ps.ensures.words)
    (weights_all_fit k g.K.Weigh.weight g.met.K.Weigh.weighing ms h ws.result ws.ensures.size ws.ensures.weights) in
    grind (arith, common_steps)

pub returns : goal.returns
returns g c =
    let k = g.K.Amount.kind in
    let ms = c.args.members.now in
    let h = c.requires.manned in
    let ws = c.weights-weights in
    let ps = c.permissions-permissions in
    let P = IfOk-at_ok _ c.unwrap.ensures c.plan.ensures.planned in
    let A = answered k ms.count ws.result ps.result c.unwrap.result c.plan.new.transfers c.plan.new.to_give c.plan.new.to_get P in
    let T = asked_posed ms h.bounded ps.result ps.ensures.small ps.ensures.words k ws.result in
    let W = weights_are k g.K.Weigh.weight g.met.K.Weigh.weighing ms h ws.result ws.ensures.size ws.ensures.weights in
    subst (λ t. Answered k t c.unwrap.result c.plan.new.transfers c.plan.new.to_give c.plan.new.to_get) (T ∙ ap (posed_by ms) W) A
