use Rattle.std.proofs.Common.{rules, ◌≡◌, sym, subst}
use Rattle.circles.specs.Calls.{admitted}
use Rattle.circles.specs.Sound.{Sound}
use Rattle.circles.proofs.Keeps.{admit_sound}
use Rattle.circles.proofs.state.State.admit.Goals as goal

pub returns-clause-sound : goal.returns-clause-sound
returns-clause-sound c =
    let s = c.args.self.now in
    let after : c.void.new.self ≡ admitted s c.args.stake c.args.rates = search rules in
    subst Sound (sym after) (admit_sound s c.args.stake c.args.rates c.requires.sound c.requires.fits)
