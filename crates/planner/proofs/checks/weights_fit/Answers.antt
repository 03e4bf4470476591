use Rattle.std.proofs.Common.{take, ◌∙◌, rules}
use Rattle.std.proofs.lemmas.Iterator.{YieldsList-from_slice}
use Rattle.std.proofs.lemmas.Iterator.Search.{all_from_yields_List}
use Rattle.planner.specs.Calls.{weight_fits}
use Rattle.planner.proofs.Checked.{first_listed}
use Rattle.planner.proofs.checks.weights_fit.Goals as goal

pub returns : goal.returns
returns g c =
    all_from_yields_List (weight_fits g.K.Amount.kind) _ _ _ c.all.ensures.ran (YieldsList-from_slice (take c.args.n c.args.weights.now) c.iter.ensures.rest) (λ x b q k. search rules)
    ∙ first_listed (weight_fits g.K.Amount.kind) c.args.n c.args.weights.now
