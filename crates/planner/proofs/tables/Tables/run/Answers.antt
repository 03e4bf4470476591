use Rattle.std.proofs.Common.{◌^◌, ◌<◌, true, false, sym, refl, subst, arith, rules}
use Rattle.flow.proofs.Reached.{reached_start}
use Rattle.flow.specs.Reached.{Reached}
use Rattle.planner.specs.Answers.{Ran}
use Rattle.planner.specs.Along.{least_on}
use Rattle.planner.proofs.Entries.{row_held}
use Rattle.planner.proofs.Running.{Running, task, limit_small, run_plans, run_blocks, run_outgrown, run_steps, apart}
use Rattle.planner.proofs.tables.Tables.run.Goals as goal

pub turn-init : goal.turn-init
turn-init g c =
    let k = g.K.Amount.kind in
    let t = c.args.self.now in
    let law = g.met.K.Amount.lawful in
    record {
      same = record { size = refl; rules = refl; transfers = refl; to_give = refl; to_get = refl };
      reached =
          subst (Reached k.group k.held (task t) 0) (sym c.requires.begun)
          (reached_start k.group law.ordered k.held (task t) c.requires.least
          (λ j l. row_held k law.value_held t.to_give.now j (omega (arith, t.kept.gives, t.words.fitted.size)) t.kept.g_values)
          law.nil_held);
    }

pub returns-in-Err-clause-ran : goal.returns-in-Err-clause-ran
returns-in-Err-clause-ran g c = run_plans c.args.self.now c.turn.self c.turn.steps c.turn.invariant c.in-Err.field-0 c.in-Err.ensures c.if-self-eq0.true

pub returns-in-Err-2-clause-ran : goal.returns-in-Err-2-clause-ran
returns-in-Err-2-clause-ran g c =
    let small : c.in-Err.field-0 < 2 ^ 64 = search rules in
    let fits : c.turn.self.words.givers < 2 ^ 64 = search rules in
    subst (λ a. Ran g.K.Amount.kind (task c.args.self.now) a c.turn.self.transfers.now c.turn.self.to_give.now c.turn.self.to_get.now) (sym c.blocked.ensures)
    (run_blocks c.args.self.now c.turn.self c.turn.steps c.turn.invariant c.in-Err.field-0 c.in-Err.ensures (omega arith) fits small)

pub step-requires-clause-apart : goal.step-requires-clause-apart
step-requires-clause-apart g c =
    let t = c.turn.self in
    apart c.args.self.now t c.turn.steps c.turn.invariant c.in-Ok.way
    c.in-Ok.ensures
    (least_on t c.in-Ok.way)

pub returns-in_default-clause-ran : goal.returns-in_default-clause-ran
returns-in_default-clause-ran g c =
    let t = c.turn.self in
    run_outgrown c.args.self.now t c.turn.steps c.turn.invariant c.in-Ok.way
    c.in-Ok.ensures
    false c.in_default.ensures.fits c.step.new.self refl c.in_default.ensures.done

pub one_more-steps-requires : goal.one_more-steps-requires
one_more-steps-requires g c =
    let few = c.turn.invariant.reached.few in
    let small = limit_small (task c.args.self.now) c.args.self.now.words.fitted.size in
    omega arith

pub turn-preserved : goal.turn-preserved
turn-preserved g c =
    let t = c.turn.self in
    subst (Running c.args.self.now c.step.new.self) (omega (arith, c.one_more-steps.ensures))
    (run_steps c.args.self.now t c.turn.steps c.turn.invariant c.in-Ok.way
    c.in-Ok.ensures
    true c.in-Ok-step.ensures.fits c.step.new.self g.met.K.Amount.lawful.ordered c.requires.least refl (search rules) c.in-Ok-step.ensures.done)
