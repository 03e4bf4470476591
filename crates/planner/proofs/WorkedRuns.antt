-- The runs worked by hand, computed.
use Rattle.std.proofs.Common.{refl}
use Rattle.words.specs.Sweep.{sweep}
use Rattle.words.specs.Words.{bit, word_of}
use Rattle.flow.specs.Counts.{sum_n}
use Rattle.flow.specs.Routes.{bump, amount, taken}
use Rattle.flow.specs.Search.{mark, turns, search_all, trace}
use Rattle.flow.specs.Outcomes.{step_held, settled, run, outcome}
use Rattle.planner.specs.Tables.{row}
use Rattle.planner.specs.Worked.{WorkedRuns}

pub worked_runs : WorkedRuns
unfolding outcome run step_held settled search_all turns sweep mark trace amount bump taken sum_n bit word_of row
worked_runs = (((refl, refl), ((refl, refl), ((refl, refl), ((refl, refl), ((refl, refl), tt))))), ((refl, refl), ((refl, refl), tt)))
