use Rattle.std.proofs.Common.{arith}
use Rattle.planner.proofs.Turns.{tail_most}
use Rattle.planner.proofs.hunt.Search.pop.Goals as goal

pub front-j-requires : goal.front-j-requires
front-j-requires c =
    let s = c.args.self.now in
    omega (arith, tail_most s.words.now s.seek s.sound, s.sound.ahead, s.words.now.fitted.size, c.if-self.false)
