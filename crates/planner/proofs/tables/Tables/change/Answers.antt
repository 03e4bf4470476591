use Rattle.std.proofs.Common.{arith}
use Rattle.planner.specs.Changes.{by}
use Rattle.planner.specs.Tables.{table}
use Rattle.planner.proofs.Amounts.{transfer_at}
use Rattle.planner.proofs.Bumped.{change_given, change_stands, table_bumped}
use Rattle.planner.proofs.tables.Tables.change.Goals as goal

pub of-requires-clause-amount : goal.of-requires-clause-amount
of-requires-clause-amount g c = (transfer_at c.args.self.now c.args.j c.args.i c.index-self-j.result c.requires.giver c.requires.receiver).0

pub unwrap-left-requires : goal.unwrap-left-requires
unwrap-left-requires g c =
    let k = g.K.Amount.kind in
    let t = c.args.self.now in
    let has = transfer_at t c.args.j c.args.i c.index-self-j.result c.requires.giver c.requires.receiver in
    change_given k _ c.args.change (table k t.transfers.now c.args.j c.args.i) has c.of.result c.of.ensures c.requires.room

pub returns-clause-done : goal.returns-clause-done
returns-clause-done g c =
    let k = g.K.Amount.kind in
    let t = c.args.self.now in
    let has = transfer_at t c.args.j c.args.i c.index-self-j.result c.requires.giver c.requires.receiver in
    let new = change_stands k _ c.args.change (table k t.transfers.now c.args.j c.args.i) has c.of.result c.of.ensures c.unwrap-left.result c.unwrap-left.ensures in
    table_bumped k t.transfers.now c.put_transfer.new.self.transfers.now c.args.j c.args.i c.unwrap-left.result (by k c.args.change) c.put_transfer.ensures.written t.kept.transfers (omega (arith, t.words.fitted.size, c.requires.giver)) (omega (arith, t.words.fitted.size, c.requires.receiver)) new.1
