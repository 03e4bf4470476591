use Rattle.std.proofs.Common.{◌≡◌, true, ◌∙◌, sym, subst, rules}
use Rattle.planner.specs.Same.{state}
use Rattle.planner.specs.Tables.{table}
use Rattle.planner.proofs.Walks.{among_inside, back_end, moved_end, moved_next, raise_room, lower_room}
use Rattle.planner.proofs.tables.Tables.carry.Goals as goal

pub change-requires-clause-room : goal.change-requires-clause-room
change-requires-clause-room g c =
    let k = g.K.Amount.kind in
    let t = c.args.self.now in
    let way = c.args.way.now in
    let room = raise_room k t.words (state t) way (k.element c.args.d) c.requires.room c.loop-link.hops c.loop-link.i c.loop-link.self.transfers.now c.loop-link.invariant.0 in
    subst (λ j. k.held (k.group.plus (table k c.loop-link.self.transfers.now j c.loop-link.i) (k.element c.args.d)) ≡ true) (sym c.in-Some.ensures.steps.giver) room

pub change-requires-in-Some-clause-room : goal.change-requires-in-Some-clause-room
change-requires-in-Some-clause-room g c =
    let k = g.K.Amount.kind in
    let t = c.args.self.now in
    let way = c.args.way.now in
    lower_room k t.words (state t) way (k.element c.args.d) c.loop-link.hops c.next.new.self c.in-Some.link c.loop-link.i c.loop-link.self.transfers.now c.change.new.self.transfers.now c.in-Some.ensures.steps (among_inside t.words way c.requires.way) c.loop-link.invariant.0 c.change.ensures.done c.requires.room

pub loop-link-preserved : goal.loop-link-preserved
loop-link-preserved g c =
    let k = g.K.Amount.kind in
    let t = c.args.self.now in
    let way = c.args.way.now in (
      moved_next k t.words (state t) way (k.element c.args.d) c.loop-link.hops c.next.new.self c.in-Some.link c.loop-link.i c.loop-link.self.transfers.now c.change.new.self.transfers.now c.in-Some.ensures.steps (among_inside t.words way c.requires.way) c.loop-link.invariant.0 c.change.ensures.done g.met.K.Amount.lawful.ordered c.change-in-Some.new.self.transfers.now c.change-in-Some.ensures.done,
      search rules,
      c.change-in-Some.ensures.gives ∙ c.change.ensures.gives ∙ c.loop-link.invariant.2,
      c.change-in-Some.ensures.gets ∙ c.change.ensures.gets ∙ c.loop-link.invariant.3,
    )

pub change-requires-2-clause-room : goal.change-requires-2-clause-room
change-requires-2-clause-room g c =
    let k = g.K.Amount.kind in
    let t = c.args.self.now in
    let way = c.args.way.now in
    let room = raise_room k t.words (state t) way (k.element c.args.d) c.requires.room c.loop-link.hops c.loop-link.i c.loop-link.self.transfers.now c.loop-link.invariant.0 in
    subst (λ j. k.held (k.group.plus (table k c.loop-link.self.transfers.now j c.loop-link.i) (k.element c.args.d)) ≡ true) (sym c.in_default.ensures.steps.giver) room

pub returns-clause-giver : goal.returns-clause-giver
returns-clause-giver g c =
    let k = g.K.Amount.kind in
    let t = c.args.self.now in
    let way = c.args.way.now in
    let p = c.loop-link.invariant.0 in (
      (back_end t.words way c.loop-link.hops c.next.new.self p.hops c.in_default.ensures.steps p.back).0,
      (moved_end k t.words (state t) way (k.element c.args.d) c.loop-link.hops c.next.new.self c.loop-link.i c.loop-link.self.transfers.now c.change-2.new.self.transfers.now c.in_default.ensures.steps p c.change-2.ensures.done).0,
    )

pub returns-clause-moved : goal.returns-clause-moved
returns-clause-moved g c =
    let k = g.K.Amount.kind in
    let t = c.args.self.now in
    let way = c.args.way.now in
    (moved_end k t.words (state t) way (k.element c.args.d) c.loop-link.hops c.next.new.self c.loop-link.i c.loop-link.self.transfers.now c.change-2.new.self.transfers.now c.in_default.ensures.steps c.loop-link.invariant.0 c.change-2.ensures.done).1
