use Rattle.std.proofs.Common.{sym, refl, ap, ◌∙◌, subst}
use Rattle.words.proofs.Sweeps.{sweep_ends}
use Rattle.words.specs.Words.{bit}
use Rattle.flow.specs.Search.{searching, backs, out_test, out_act, outs}
use Rattle.planner.specs.Model.{model, tests}
use Rattle.planner.proofs.Outs.{Outing, outs_start, outs_found, outs_next}
use Rattle.planner.proofs.hunt.Search.visit.Goals as goal

pub loop-i-init : goal.loop-i-init
loop-i-init c =
    let s = c.args.self.now in
    (rw c.into_iter-i-iterator.ensures.into_iter_gives (outs_start s.words.now s.seek c.args.j c.except.result c.except.ensures), refl, refl)

pub returns-then-wants-clause-stands : goal.returns-then-wants-clause-stands
returns-then-wants-clause-stands c =
    let s = c.loop-i.self in
    let takes = ap (λ w. bit w.takers c.in-Some.i) (sym c.note.ensures.words) ∙ sym c.wants.ensures ∙ c.if-wants.true in
    outs_found s.words.now c.args.self.now.seek s.seek c.args.j c.loop-i.i-iterator.0 c.in-Some.i c.next.new.self.0 c.loop-i.invariant.0 c.in-Some.ensures.steps
    c.note.new.self.seek c.note.ensures.stands takes
    ∙ ap (λ w. outs (tests w) c.args.j w.n (model searching c.args.self.now.seek)) c.loop-i.invariant.2

pub loop-i-preserved : goal.loop-i-preserved
loop-i-preserved c =
    let s = c.loop-i.self in
    let takes = ap (λ w. bit w.takers c.in-Some.i) (sym c.note.ensures.words) ∙ sym c.wants.ensures ∙ c.if-wants.false in
    let back = c.back.ensures.stands ∙ ap (λ w. backs (tests w) c.in-Some.i w.n (model searching c.note.new.self.seek)) c.note.ensures.words in
    let next = outs_next s.words.now c.args.self.now.seek s.seek c.args.j c.loop-i.i-iterator.0 c.in-Some.i c.next.new.self.0 c.loop-i.invariant.0 c.in-Some.ensures.steps
    c.note.new.self.seek c.note.ensures.stands takes c.back.new.self.seek back in
    let words = c.back.ensures.words ∙ c.note.ensures.words in (
      subst (λ w. Outing w c.args.j c.args.self.now.seek c.next.new.self.0 c.back.new.self.seek) (sym words) next,
      c.back.ensures.still ∙ c.note.ensures.still ∙ c.loop-i.invariant.1,
      words ∙ c.loop-i.invariant.2,
    )

pub returns-clause-stands : goal.returns-clause-stands
returns-clause-stands c =
    let s = c.loop-i.self in
    sweep_ends (out_test (tests s.words.now) c.args.j) (out_act (tests s.words.now) c.args.j) s.words.now.n (model searching c.args.self.now.seek) (model searching s.seek)
    (subst (λ v. Outing s.words.now c.args.j c.args.self.now.seek v s.seek) c.in-None.ensures.steps c.loop-i.invariant.0)
    ∙ ap (λ w. outs (tests w) c.args.j w.n (model searching c.args.self.now.seek)) c.loop-i.invariant.2
