use Rattle.planner.proofs.Keeps.{give_kept}
use Rattle.planner.proofs.tables.Tables.put_give.Goals as goal

pub invariant_of-self-2 : goal.invariant_of-self-2
invariant_of-self-2 g c =
    let t = c.args.self.now in
    record { kept = give_kept g.K.Amount.kind t.words t.transfers.now t.to_give.now t.to_get.now t.kept c.args.amount c.write.new.word c.requires.value c.args.j c.write.new.amounts c.write.ensures.written c.requires.giver c.write.ensures.told }
