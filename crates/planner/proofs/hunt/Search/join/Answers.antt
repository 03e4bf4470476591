use Rattle.std.proofs.Common.{arith}
use Rattle.planner.proofs.Marks.{bit_marked, room_left, after_model, after_sound}
use Rattle.planner.proofs.hunt.Search.join.Goals as goal

pub bounds-self-self : goal.bounds-self-self
bounds-self-self c =
    let s = c.args.self.now in room_left s.words.now.n s.seek c.args.k s.sound s.words.now.fitted.size c.requires.giver c.requires.new

pub overflow_add-self : goal.overflow_add-self
overflow_add-self c =
    let s = c.args.self.now in
    let h = room_left s.words.now.n s.seek c.args.k s.sound s.words.now.fitted.size c.requires.giver c.requires.new in
    omega arith

pub invariant_of-self : goal.invariant_of-self
invariant_of-self c =
    let s = c.args.self.now in
    record {
      sound =
          after_sound s.words.now.n s.seek c.args.k s.sound s.words.now.fitted.size c.requires.giver c.requires.new c.args.i c.with-self.result
          c.requires.receiver (bit_marked s.seek.reached c.args.k c.with-self.result c.with-self.ensures);
    }

pub returns-clause-stands : goal.returns-clause-stands
returns-clause-stands c e =
    let s = c.args.self.now in
    after_model s.words.now.n s.seek c.args.k s.sound s.words.now.fitted.size c.requires.giver c.requires.new c.args.i c.with-self.result
    c.requires.receiver (bit_marked s.seek.reached c.args.k c.with-self.result c.with-self.ensures) e
