use Rattle.std.proofs.Common.{refl}
use Rattle.planner.proofs.WorkedRuns.{worked_runs}
use Rattle.planner.proofs.worked.proved_runs.Goals as goal

pub returns : goal.returns
returns c = record { count = refl; worked_out = worked_runs }
