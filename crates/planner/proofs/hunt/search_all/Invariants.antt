use Rattle.std.proofs.Common.{◌≡◌, ◌-◌}
use Rattle.flow.specs.Search.{searching, turns, fresh}
use Rattle.planner.specs.Model.{model, tests}
use Rattle.planner.proofs.hunt.search_all.Given as goal

abbrev pub invariant-loop-j : goal.invariant-loop-j
invariant-loop-j l = (model searching l.search.seek ≡ turns (tests l.w) l.search.seek.head (fresh (tests l.w))) × (l.search.words.now ≡ l.w)

abbrev pub decreases-loop-j : goal.decreases-loop-j
decreases-loop-j l = l.w.n - l.search.seek.head
