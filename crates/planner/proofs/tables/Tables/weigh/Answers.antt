use Rattle.std.proofs.Common.{sym, ap, ◌∙◌, subst, arith, rules}
use Rattle.planner.proofs.Begins.{Weighed, weighed_more, weighed_all}
use Rattle.planner.proofs.Entries.{value_read}
use Rattle.planner.proofs.tables.Tables.weigh.Goals as goal

pub put_give-requires-clause-value : goal.put_give-requires-clause-value
put_give-requires-clause-value g c =
    ap g.K.Amount.kind.value c.index-weights-j.is ∙ value_read g.K.Amount.kind c.args.weights.now c.loop-j.j c.index-weights-j.result (omega (arith, c.loop-j-test.true)) c.requires.values

pub put_get-requires-clause-value : goal.put_get-requires-clause-value
put_get-requires-clause-value g c =
    ap g.K.Amount.kind.value c.index-weights-j.is ∙ value_read g.K.Amount.kind c.args.weights.now c.loop-j.j c.index-weights-j.result (omega (arith, c.loop-j-test.true)) c.requires.values

pub loop-j-preserved : goal.loop-j-preserved
loop-j-preserved g c = (
  search rules,
  c.put_get.ensures.transfers ∙ c.put_give.ensures.transfers ∙ c.loop-j.invariant.1,
  weighed_more g.K.Amount.kind c.args.weights.now c.loop-j.self.to_give.now c.put_get.new.self.to_give.now c.loop-j.j c.index-weights-j.result
      (omega (arith, c.loop-j.self.kept.gives, c.args.self.now.words.fitted.size, c.requires.size)) (omega (arith, c.loop-j-test.true)) c.index-weights-j.is (c.put_get.ensures.gives ∙ c.put_give.ensures.written) c.loop-j.invariant.2,
  weighed_more g.K.Amount.kind c.args.weights.now c.put_give.new.self.to_get.now c.put_get.new.self.to_get.now c.loop-j.j c.index-weights-j.result
      (omega (arith, c.put_give.new.self.kept.gets, c.args.self.now.words.fitted.size, c.requires.size)) (omega (arith, c.loop-j-test.true)) c.index-weights-j.is c.put_get.ensures.written
      (subst (Weighed g.K.Amount.kind c.loop-j.j c.args.weights.now) (sym c.put_give.ensures.gets) c.loop-j.invariant.3),
)

pub returns-clause-gives : goal.returns-clause-gives
returns-clause-gives g c = weighed_all g.K.Amount.kind c.args.weights.now c.loop-j.self.to_give.now c.loop-j.j (omega (arith, c.loop-j-test.false)) c.loop-j.invariant.2

pub returns-clause-gets : goal.returns-clause-gets
returns-clause-gets g c = weighed_all g.K.Amount.kind c.args.weights.now c.loop-j.self.to_get.now c.loop-j.j (omega (arith, c.loop-j-test.false)) c.loop-j.invariant.3
