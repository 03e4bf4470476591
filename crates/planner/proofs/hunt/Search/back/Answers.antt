use Rattle.std.proofs.Common.{sym, refl, ap, ◌∙◌, subst}
use Rattle.words.proofs.Sweeps.{sweep_ends}
use Rattle.flow.specs.Search.{searching, joined, back_test, backs}
use Rattle.planner.specs.Model.{model, tests}
use Rattle.planner.proofs.Backs.{Backing, backs_start, backs_next}
use Rattle.planner.proofs.hunt.Search.back.Goals as goal

pub loop-k-init : goal.loop-k-init
loop-k-init c =
    let s = c.args.self.now in
    (rw c.into_iter-k-iterator.ensures.into_iter_gives (backs_start s.words.now s.seek c.args.i c.backward.result c.backward.ensures), refl, refl)

pub loop-k-preserved : goal.loop-k-preserved
loop-k-preserved c =
    let s = c.loop-k.self in
    let next = backs_next s.words.now c.args.self.now.seek s.seek c.args.i c.loop-k.k-iterator.0 c.in-Some.k c.next.new.self.0 c.loop-k.invariant.0 c.in-Some.ensures.steps c.join.new.self.seek (c.join.ensures.stands searching) in (
      subst (λ w. Backing w c.args.i c.args.self.now.seek c.next.new.self.0 c.join.new.self.seek) (sym c.join.ensures.words) next,
      c.join.ensures.still ∙ c.loop-k.invariant.1,
      c.join.ensures.words ∙ c.loop-k.invariant.2,
    )

pub returns-clause-stands : goal.returns-clause-stands
returns-clause-stands c =
    let s = c.loop-k.self in
    sweep_ends (back_test (tests s.words.now) c.args.i) (joined c.args.i) s.words.now.n (model searching c.args.self.now.seek) (model searching s.seek)
    (subst (λ v. Backing s.words.now c.args.i c.args.self.now.seek v s.seek) c.in-None.ensures.steps c.loop-k.invariant.0)
    ∙ ap (λ w. backs (tests w) c.args.i w.n (model searching c.args.self.now.seek)) c.loop-k.invariant.2
