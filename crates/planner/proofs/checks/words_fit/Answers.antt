use Rattle.std.proofs.Common.{refl, get_or, ◌∙◌, rules, arith}
use Rattle.std.proofs.lemmas.Iterator.{YieldsList-from_range}
use Rattle.std.proofs.lemmas.Iterator.Search.{all_from_yields_List}
use Rattle.planner.specs.Calls.{word_fits}
use Rattle.planner.proofs.Checked.{below_listed}
use Rattle.planner.proofs.checks.words_fit.Goals as goal

pub returns : goal.returns
returns c =
    all_from_yields_List (λ j. word_fits c.args.n j (get_or c.args.permissions.now j 0)) _ _ _ c.all.ensures.ran (YieldsList-from_range 0 c.args.n c.args.n refl (omega arith)) (λ x b q k. search rules)
    ∙ below_listed c.args.n (λ j. word_fits c.args.n j (get_or c.args.permissions.now j 0))
