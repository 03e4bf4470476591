use Rattle.std.proofs.Common.{false, ap}
use Rattle.circles.specs.declared.members.Members.{Members}
use Rattle.circles.specs.declared.state.State.{State}
use Rattle.circles.specs.Calls.{no_transfers}
use Rattle.circles.proofs.state.State.open.Goals as goal

pub returns : goal.returns
returns c =
    let made : Members → State = λ ms. record { number = c.args.number; members = ms; total = 0; standing = false; transfers = no_transfers } in
    ap made c.none.ensures
