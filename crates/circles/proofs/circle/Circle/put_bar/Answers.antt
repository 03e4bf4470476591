use Rattle.std.proofs.Common.{◌<◌, sym, subst, arith}
use Rattle.std.proofs.lemmas.Bool.Decides.{nat_tests}
use Rattle.circles.specs.Sound.{Sound}
use Rattle.circles.proofs.Keeps.{bar_sound}
use Rattle.circles.proofs.circle.Circle.put_bar.Goals as goal

pub invariant_of-self : goal.invariant_of-self
invariant_of-self c =
    let s = c.args.self.now in
    let room = s.sound.manned.room in
    let giver : c.in_ok-j.j < 64 = grind (arith, nat_tests, c.in_ok-j.ensures, room) in
    record { sound = subst Sound (sym c.put_bar.ensures) (bar_sound s.state c.in_ok-j.j c.in_ok-j.i c.args.on giver s.sound) }
