use Rattle.std.proofs.Common.{None, refl}
use Rattle.planner.specs.Inside.{marks_of}
use Rattle.planner.proofs.Straights.{straight_way, none_inside}
use Rattle.planner.proofs.hunt.straight.Goals as goal

pub invariant_of-result : goal.invariant_of-result
invariant_of-result c =
    let w = c.args.w.now in
    record { size = w.fitted.size; inside = none_inside w.n; seen = c.requires.giver; ends = c.requires.receiver; alone = λ e. c.requires.starts }

pub returns : goal.returns
returns c =
    record {
      ends = c.requires.ends;
      way = straight_way c.args.w.now c.args.link.giver c.args.link.receiver c.requires (marks_of None);
      among = record { members = refl; givers = refl };
    }
