use Rattle.std.proofs.Common.{take, refl, ◌∙◌, subst, arith}
use Rattle.std.proofs.lemmas.List.{length-set}
use Rattle.planner.proofs.Starts.{Starting, starts_start, starts_room, starts_next, starts_members, begun_model, begun_sound}
use Rattle.planner.proofs.hunt.Search.start.Goals as goal

pub loop-k-init : goal.loop-k-init
loop-k-init c = (rw c.into_iter-k-iterator.ensures.into_iter_gives (starts_start c.args.words.now), refl, omega arith, λ k l. absurd (omega arith))

pub bounds-queue-tail : goal.bounds-queue-tail
bounds-queue-tail c =
    starts_room c.args.words.now c.loop-k.queue c.loop-k.tail c.loop-k.k-iterator.0 c.in-Some.k c.next.new.self.0
    c.loop-k.invariant.0 c.loop-k.invariant.1 c.loop-k.invariant.2 c.in-Some.ensures.steps

pub loop-k-preserved : goal.loop-k-preserved
loop-k-preserved c = (
  starts_next c.args.words.now c.loop-k.queue c.loop-k.tail c.loop-k.k-iterator.0 c.in-Some.k c.next.new.self.0
      c.loop-k.invariant.0 c.loop-k.invariant.1 c.loop-k.invariant.2 c.in-Some.ensures.steps,
  length-set c.loop-k.queue c.loop-k.tail c.in-Some.k ∙ c.loop-k.invariant.1,
  omega (
    arith,
    starts_room c.args.words.now c.loop-k.queue c.loop-k.tail c.loop-k.k-iterator.0 c.in-Some.k c.next.new.self.0
        c.loop-k.invariant.0 c.loop-k.invariant.1 c.loop-k.invariant.2 c.in-Some.ensures.steps,
  ),
  starts_members c.args.words.now c.loop-k.queue c.loop-k.tail c.loop-k.k-iterator.0 c.in-Some.k c.next.new.self.0
      c.loop-k.invariant.0 c.loop-k.invariant.1 c.loop-k.invariant.2 c.in-Some.ensures.steps c.loop-k.invariant.3,
)

pub invariant_of-result : goal.invariant_of-result
invariant_of-result c =
    let b = subst (λ v. Starting c.args.words.now v (take c.loop-k.tail c.loop-k.queue)) c.in-None.ensures.steps c.loop-k.invariant.0 in
    record { sound = rw c.none.ensures (begun_sound c.args.words.now c.loop-k.queue c.loop-k.tail b c.loop-k.invariant.1 c.loop-k.invariant.2 c.loop-k.invariant.3) }

pub returns-clause-stands : goal.returns-clause-stands
returns-clause-stands c =
    let b = subst (λ v. Starting c.args.words.now v (take c.loop-k.tail c.loop-k.queue)) c.in-None.ensures.steps c.loop-k.invariant.0 in
    rw c.none.ensures (begun_model c.args.words.now c.loop-k.queue c.loop-k.tail b c.loop-k.invariant.1 c.loop-k.invariant.2)
