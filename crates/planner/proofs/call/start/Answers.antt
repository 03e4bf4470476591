use Rattle.std.proofs.Common.{◌≡◌, ℕ, ◌<◌, ◌≤◌, List, length, get_or, sym, ap, ◌∙◌, subst, arith, rules}
use Rattle.words.specs.Words.{bit}
use Rattle.groups.specs.Sums.{Le}
use Rattle.flow.specs.Outcomes.{WithinMembers}
use Rattle.flow.proofs.Outside.{within_members}
use Rattle.amounts.specs.Kind.{Kind}
use Rattle.planner.specs.declared.answer.Answer.{Answer}
use Rattle.planner.specs.Answers.{Ran}
use Rattle.planner.specs.Calls.{asked, Planned}
use Rattle.planner.specs.Tables.{row}
use Rattle.planner.proofs.Accepted.{accepted}
use Rattle.planner.proofs.Begins.{begin_fitted, begin_step, row_take, values_take, posed_asked, begun_here, asked_held, asked_least, asked_beyond}
use Rattle.planner.proofs.Meanings.{planned_means}
use Rattle.planner.proofs.call.start.Goals as goal

pub invariant_of-words : goal.invariant_of-words
invariant_of-words g c =
    let acc = accepted g.K.Amount.kind c.args.n c.args.weights.now c.args.permissions.now c.args.transfers.now c.args.to_give.now c.args.to_get.now c.requires in
    record { fitted = begin_fitted c.args.n c.rules.result c.args.permissions.now acc.size c.rules.ensures.size c.rules.ensures.rules }

pub invariant_of-tables : goal.invariant_of-tables
invariant_of-tables g c =
    let acc = accepted g.K.Amount.kind c.args.n c.args.weights.now c.args.permissions.now c.args.transfers.now c.args.to_give.now c.args.to_get.now c.requires in
    record {
      kept =
          begin_step g.K.Amount.kind g.met.K.Amount.lawful.ordered c.clear.new.amounts c.clear-2.new.amounts c.clear-3.new.amounts
          (omega (arith, acc.transfers)) (omega (arith, acc.gives)) (omega (arith, acc.gets))
          c.clear.ensures.values c.clear-2.ensures.values c.clear-3.ensures.values c.clear.ensures.zeros c.clear-2.ensures.zeros c.clear-3.ensures.zeros;
    }

pub weigh-requires-clause-values : goal.weigh-requires-clause-values
weigh-requires-clause-values g c =
    let acc = accepted g.K.Amount.kind c.args.n c.args.weights.now c.args.permissions.now c.args.transfers.now c.args.to_give.now c.args.to_get.now c.requires in
    values_take g.K.Amount.kind c.args.weights.now c.args.n acc.weights_all_fit

pub run-requires-clause-begun : goal.run-requires-clause-begun
run-requires-clause-begun g c =
    let k = g.K.Amount.kind in
    let t = c.weigh.new.self in
    begun_here k c.args.n c.args.weights.now c.args.permissions.now t.words t.transfers.now t.to_give.now t.to_get.now c.weigh.ensures.same.size
    (λ a i. ap (λ p. bit (get_or p a 0) i) c.weigh.ensures.same.rules ∙ c.rules.ensures.rules a i)
    (λ i. c.weigh.ensures.gives i ∙ row_take k c.args.weights.now c.args.n i) (λ i. c.weigh.ensures.gets i ∙ row_take k c.args.weights.now c.args.n i)
    (λ i. ap (λ l. row k l i) c.weigh.ensures.transfers ∙ c.clear.ensures.zeros i)

pub run-requires-clause-least : goal.run-requires-clause-least
run-requires-clause-least g c =
    let k = g.K.Amount.kind in
    let acc = accepted k c.args.n c.args.weights.now c.args.permissions.now c.args.transfers.now c.args.to_give.now c.args.to_get.now c.requires in
    λ j l.
    subst (Le k.group k.group.nil) (sym (c.weigh.ensures.gives j ∙ row_take k c.args.weights.now c.args.n j))
    (asked_least k g.met.K.Amount.lawful c.args.n c.args.weights.now acc.weights_all_fit (omega (arith, acc.weights, acc.size)) j (subst (λ n. j < n) c.weigh.ensures.same.size l))

-- what is planned stands in the slices that the tables hold
left : {V : Type 0} (k : Kind V) (n : ℕ) (weights : List V) (words : List ℕ) (a : Answer) (xs gs rs xs' gs' rs' : List V)
    → xs ≡ xs' → gs ≡ gs' → rs ≡ rs' → Planned k n weights words a xs gs rs → Planned k n weights words a xs' gs' rs'
left k n weights words a xs gs rs xs' gs' rs' ex eg er p =
    subst (λ l. Planned k n weights words a l gs' rs') ex (subst (λ l. Planned k n weights words a xs l rs') eg (subst (λ l. Planned k n weights words a xs gs l) er p))

pub returns : goal.returns
returns g c =
    let k = g.K.Amount.kind in
    let law = g.met.K.Amount.lawful in
    let acc = accepted k c.args.n c.args.weights.now c.args.permissions.now c.args.transfers.now c.args.to_give.now c.args.to_get.now c.requires in
    let t = c.weigh.new.self in
    let u = c.run.new.self in
    let asks = asked k c.args.n c.args.weights.now c.args.permissions.now in
    let room : c.args.n ≤ length c.args.weights.now = omega (arith, acc.weights, acc.size) in
    let poses = posed_asked k c.args.n c.args.weights.now c.args.permissions.now t.words t.transfers.now t.to_give.now t.to_get.now c.weigh.ensures.same.size
    (λ a i. ap (λ p. bit (get_or p a 0) i) c.weigh.ensures.same.rules ∙ c.rules.ensures.rules a i) (λ i. c.weigh.ensures.gives i ∙ row_take k c.args.weights.now c.args.n i) in
    let ran = subst (λ t. Ran k t c.run.result u.transfers.now u.to_give.now u.to_get.now) poses c.run.ensures.ran in
    left k c.args.n c.args.weights.now c.args.permissions.now c.run.result u.transfers.now u.to_give.now u.to_get.now _ _ _ (search rules) (search rules) (search rules)
    (record {
      ran = ran;
      within =
          subst (WithinMembers k.group asks) (sym ran.state)
          (within_members k.group k.held asks (asked_beyond k law c.args.n c.args.weights.now acc.weights_all_fit room));
      x_values = u.kept.x_values;
      g_values = u.kept.g_values;
      r_values = u.kept.r_values;
      means =
          planned_means k law asks acc.size (asked_least k law c.args.n c.args.weights.now acc.weights_all_fit room) (asked_held k law c.args.n c.args.weights.now acc.weights_all_fit room)
          c.run.result u.transfers.now u.to_give.now u.to_get.now ran;
    })
