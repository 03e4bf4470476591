use Rattle.planner.proofs.Straights.{untried_all, untried_next, straight_ends}
use Rattle.planner.proofs.hunt.at_once.Goals as goal

pub loop-giver-init : goal.loop-giver-init
loop-giver-init c = rw c.into_iter-giver-iterator.ensures.into_iter_gives (untried_all c.args.w.now)

pub returns-in-Some-lowest : goal.returns-in-Some-lowest
returns-in-Some-lowest c =
    straight_ends c.args.w.now c.loop-giver.giver-iterator.0 c.in-Some.giver c.next.new.self.0 c.loop-giver.invariant c.in-Some.ensures.steps
    c.wanting.result c.wanting.ensures c.in-Some-lowest.receiver c.in-Some-lowest.ensures

pub loop-giver-preserved : goal.loop-giver-preserved
loop-giver-preserved c =
    untried_next c.args.w.now c.loop-giver.giver-iterator.0 c.in-Some.giver c.next.new.self.0 c.loop-giver.invariant c.in-Some.ensures.steps
    c.wanting.result c.wanting.ensures c.in_default.ensures
