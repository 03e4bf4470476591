use Rattle.planner.proofs.Outs.{noted_model}
use Rattle.planner.proofs.hunt.Search.note.Goals as goal

pub returns-clause-stands : goal.returns-clause-stands
returns-clause-stands c e =
    let s = c.args.self.now in
    noted_model s.words.now.n s.seek c.args.j c.args.i c.with-self.result s.sound c.requires.giver c.requires.receiver s.words.now.fitted.size c.with-self.ensures e
