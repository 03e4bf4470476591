use Rattle.std.proofs.Common.{leb, ap, ◌∙◌}
use Rattle.planner.proofs.Checked.{most_below}
use Rattle.planner.proofs.checks.within.Goals as goal

pub returns : goal.returns
returns c = ap (leb c.args.permissions) c.first.ensures.number ∙ most_below c.args.permissions c.args.n
