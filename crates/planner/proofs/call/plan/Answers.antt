use Rattle.planner.proofs.Beyond.{beyond_ignored}
use Rattle.planner.proofs.call.plan.Goals as goal

pub returns-in_err-check-clause-beyond : goal.returns-in_err-check-clause-beyond
returns-in_err-check-clause-beyond g c =
    beyond_ignored g.K.Amount.kind c.args.n c.args.weights.now c.args.permissions.now c.args.transfers.now c.args.to_give.now c.args.to_get.now

pub returns-clause-beyond : goal.returns-clause-beyond
returns-clause-beyond g c =
    beyond_ignored g.K.Amount.kind c.args.n c.args.weights.now c.args.permissions.now c.args.transfers.now c.args.to_give.now c.args.to_get.now
