use Rattle.planner.proofs.Keeps.{transfer_kept}
use Rattle.planner.proofs.tables.Tables.put_transfer.Goals as goal

pub invariant_of-self : goal.invariant_of-self
invariant_of-self g c =
    let t = c.args.self.now in
    record { kept = transfer_kept g.K.Amount.kind t.words t.transfers.now t.to_give.now t.to_get.now t.kept c.args.amount c.write.new.word c.requires.value c.args.j c.args.i c.write.new.amounts c.write.ensures.written c.requires.giver c.requires.receiver c.write.ensures.told }
