use Rattle.std.proofs.Common.{ap, ◌∙◌}
use Rattle.groups.specs.Sums.{minus}
use Rattle.planner.specs.Same.{state}
use Rattle.planner.proofs.Amounts.{transfer_at, give_at, get_at}
use Rattle.planner.proofs.Walks.{among_inside, receiver_inside, back_end, link_inside, fits_next, fits_end}
use Rattle.planner.proofs.tables.Tables.fits.Goals as goal

pub is_held-fits-requires-clause-amount : goal.is_held-fits-requires-clause-amount
is_held-fits-requires-clause-amount g c =
    let t = c.args.self.now in
    let way = c.args.way.now in
    let l = c.in-Some.link in
    let p = c.loop-link.invariant in
    let inside = link_inside t.words way c.loop-link.hops c.next.new.self l p.hops c.in-Some.ensures.steps p.back (among_inside t.words way c.requires.way) in
    (transfer_at t l.giver c.loop-link.i c.index-self-link.result inside.0 p.inside).0

pub is_held-fits-requires-in-Some-clause-amount : goal.is_held-fits-requires-in-Some-clause-amount
is_held-fits-requires-in-Some-clause-amount g c =
    let t = c.args.self.now in
    let way = c.args.way.now in
    let l = c.in-Some.link in
    let p = c.loop-link.invariant in
    let inside = link_inside t.words way c.loop-link.hops c.next.new.self l p.hops c.in-Some.ensures.steps p.back (among_inside t.words way c.requires.way) in
    (transfer_at t l.giver l.receiver c.index-self-link-in-Some.result inside.0 inside.1).0

pub loop-link-preserved : goal.loop-link-preserved
loop-link-preserved g c =
    let k = g.K.Amount.kind in
    let t = c.args.self.now in
    let way = c.args.way.now in
    let d = k.element c.args.d in
    let l = c.in-Some.link in
    let p = c.loop-link.invariant in
    let goes = c.in-Some.ensures.steps in
    let inside = link_inside t.words way c.loop-link.hops c.next.new.self l p.hops goes p.back (among_inside t.words way c.requires.way) in
    let x = transfer_at t l.giver c.loop-link.i c.index-self-link.result inside.0 p.inside in
    let y = transfer_at t l.giver l.receiver c.index-self-link-in-Some.result inside.0 inside.1 in
    fits_next k t.words (state t) way d c.loop-link.hops c.next.new.self l c.loop-link.i c.loop-link.fits c.is_held-fits.result c.is_held-fits-in-Some.result (among_inside t.words way c.requires.way) goes
    (c.is_held-fits.ensures ∙ ap (λ a. k.held (k.group.plus a d)) x.1) (c.is_held-fits-in-Some.ensures ∙ ap (λ a. k.held (minus k.group a d)) y.1) p

pub is_held-requires-clause-amount : goal.is_held-requires-clause-amount
is_held-requires-clause-amount g c =
    let t = c.args.self.now in
    let way = c.args.way.now in
    let p = c.loop-link.invariant in
    let end = back_end t.words way c.loop-link.hops c.next.new.self p.hops c.in_default.ensures.steps p.back in
    (transfer_at t c.next.new.self.giver c.loop-link.i c.index-self-j.result end.0 p.inside).0

pub is_held-requires-2-clause-amount : goal.is_held-requires-2-clause-amount
is_held-requires-2-clause-amount g c =
    let t = c.args.self.now in
    let way = c.args.way.now in
    let p = c.loop-link.invariant in
    let end = back_end t.words way c.loop-link.hops c.next.new.self p.hops c.in_default.ensures.steps p.back in
    (give_at t c.next.new.self.giver c.index-self-j-2.result end.0).0

pub is_held-requires-3-clause-amount : goal.is_held-requires-3-clause-amount
is_held-requires-3-clause-amount g c = (get_at c.args.self.now c.args.way.now.receiver c.index-self-way.result (receiver_inside c.args.self.now.words c.args.way.now c.requires.way)).0

pub returns : goal.returns
returns g c =
    let k = g.K.Amount.kind in
    let t = c.args.self.now in
    let way = c.args.way.now in
    let d = k.element c.args.d in
    let p = c.loop-link.invariant in
    let ends = c.in_default.ensures.steps in
    let v = c.next.new.self.giver in
    let end = back_end t.words way c.loop-link.hops c.next.new.self p.hops ends p.back in
    let x = transfer_at t v c.loop-link.i c.index-self-j.result end.0 p.inside in
    let y = give_at t v c.index-self-j-2.result end.0 in
    let r = get_at t way.receiver c.index-self-way.result (receiver_inside t.words way c.requires.way) in
    fits_end k t.words (state t) way d c.loop-link.hops c.next.new.self c.loop-link.i c.loop-link.fits c.is_held.result c.is_held-2.result c.is_held-3.result ends p
    (c.is_held.ensures ∙ ap (λ a. k.held (k.group.plus a d)) x.1) (c.is_held-2.ensures ∙ ap (λ a. k.held (minus k.group a d)) y.1) (c.is_held-3.ensures ∙ ap (λ a. k.held (minus k.group a d)) r.1)
