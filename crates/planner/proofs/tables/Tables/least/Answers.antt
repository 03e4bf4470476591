use Rattle.std.proofs.Common.{[]}
use Rattle.planner.specs.Same.{state}
use Rattle.planner.proofs.Amounts.{transfer_at, give_at, get_at}
use Rattle.planner.proofs.Walks.{among_inside, receiver_inside, back_start, back_end, link_inside, least_next, least_end}
use Rattle.planner.proofs.tables.Tables.least.Goals as goal

pub loop-link-init : goal.loop-link-init
loop-link-init g c =
    let t = c.args.self.now in
    let way = c.args.way.now in
    let h = c.hops-hops in
    let got = get_at t way.receiver c.index-self-way.result (receiver_inside t.words way c.requires) in
    record {
      hops = [];
      back = back_start t.words way c.requires h.result h.ensures;
      good = got.0;
      value = got.1;
    }

pub loop-link-preserved : goal.loop-link-preserved
loop-link-preserved g c =
    let t = c.args.self.now in
    let way = c.args.way.now in
    let h = c.loop-link.hops in
    let l = c.in-Some.link in
    let p = c.loop-link.invariant in
    let goes = c.in-Some.ensures.steps in
    let inside = link_inside t.words way h c.next.new.self l p.hops goes p.back (among_inside t.words way c.requires) in
    let has = transfer_at t l.giver l.receiver c.index-self-link.result inside.0 inside.1 in
    let less = c.lesser-d.ensures.stands has.0 p.good in
    least_next g.K.Amount.kind t.words (state t) way h c.next.new.self l c.loop-link.d _ c.lesser-d.result (among_inside t.words way c.requires) goes has.1 less.0 less.1 p

pub returns : goal.returns
returns g c =
    let t = c.args.self.now in
    let way = c.args.way.now in
    let h = c.loop-link.hops in
    let p = c.loop-link.invariant in
    let ends = c.in_default.ensures.steps in
    let end = back_end t.words way h c.next.new.self p.hops ends p.back in
    let has = give_at t c.next.new.self.giver c.index-self-hops.result end.0 in
    let less = c.lesser.ensures.stands has.0 p.good in
    record {
      value = less.0;
      least = least_end g.K.Amount.kind t.words (state t) way h c.next.new.self c.loop-link.d _ c.lesser.result ends p has.1 less.1;
    }
