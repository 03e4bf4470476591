use Rattle.std.proofs.Common.{◌≡◌, ℕ, ◌<◌, [], length, get_or, take}
use Rattle.words.specs.Sweep.{Swept}
use Rattle.flow.specs.Search.{start_test, start_act}
use Rattle.planner.specs.Model.{tests}
use Rattle.planner.proofs.hunt.Search.start.Given as goal

abbrev pub invariant-loop-k : goal.invariant-loop-k
invariant-loop-k l =
    Swept (start_test (tests l.words)) (start_act (tests l.words)) l.words.n [] l.k-iterator.0 (take l.tail l.queue)
    × (length l.queue ≡ 64) × (l.tail < 65) × ((c : ℕ) → c < l.tail → get_or l.queue c 0 < l.words.n)
