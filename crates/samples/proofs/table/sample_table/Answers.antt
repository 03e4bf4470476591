use Rattle.std.proofs.Common.{refl, rules}
use Rattle.samples.proofs.Fits.{all_in_range}
use Rattle.samples.proofs.table.sample_table.Goals as goal

pub loop-age-init : goal.loop-age-init
loop-age-init c = (search rules, all_in_range _ refl)

pub unwrap-requires : goal.unwrap-requires
unwrap-requires c =
    let fits = c.loop-age.invariant.1.at c.loop-age.age-index c.loop-age-test.true in
    search rules
