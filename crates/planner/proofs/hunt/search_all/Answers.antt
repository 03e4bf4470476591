use Rattle.std.proofs.Common.{◌≡◌, [], sym, refl, ap, ◌∙◌, subst, ap₂, arith}
use Rattle.flow.specs.Search.{searching, found, turns, fresh, outs, trace, search_all}
use Rattle.planner.specs.Model.{model, marked, tests}
use Rattle.planner.proofs.Turns.{tail_most, turns_end, turn_made, turn_found}
use Rattle.planner.proofs.Straights.{search_way}
use Rattle.planner.proofs.hunt.search_all.Goals as goal

pub loop-j-init : goal.loop-j-init
unfolding turns
loop-j-init c =
    (c.start-search.ensures.stands ∙ sym (ap (λ h. turns (tests c.args.w.now) h (fresh (tests c.args.w.now))) c.start-search.ensures.first), c.start-search.ensures.words)

pub returns-in-Some-visit : goal.returns-in-Some-visit
returns-in-Some-visit c =
    let s = c.loop-j.search in
    let q = c.visit.new.self.seek in
    let i = c.in-Some-visit.receiver in
    let taken = c.in-Some.ensures.popped in
    let stands = subst (λ w. model searching s.seek ≡ turns (tests w) s.seek.head (fresh (tests w))) (sym c.loop-j.invariant.1) c.loop-j.invariant.0 in
    let visited = c.in-Some-visit.ensures.stands ∙ ap (λ w. outs (tests w) c.in-Some.j w.n (model searching c.pop.new.self.seek)) c.pop.ensures.words
    ∙ ap₂ (λ j q. outs (tests s.words.now) j s.words.now.n (model searching q)) taken.giver taken.left in
    let whole : model (found i) q ≡ search_all (tests c.args.w.now) =
    turn_found s.words.now s.seek s.sound taken.ahead stands i q visited ∙ ap (λ w. search_all (tests w)) c.loop-j.invariant.1 in
    record {
      ends = sym (ap (λ r. r.ends) whole);
      way = search_way c.args.w.now q i whole ∙ ap (λ j. trace (tests c.args.w.now) c.args.w.now.n (marked q.marks i) j []) (sym c.from.ensures);
      among = record { members = refl; givers = refl };
    }

pub loop-j-smaller : goal.loop-j-smaller
loop-j-smaller c =
    let s = c.loop-j.search in
    omega
    (arith, tail_most s.words.now s.seek s.sound, ap (λ w. w.n) c.loop-j.invariant.1, c.in_default-visit.ensures.still, ap (λ q. q.head) c.in-Some.ensures.popped.left, c.in-Some.ensures.popped.ahead)

pub loop-j-preserved : goal.loop-j-preserved
loop-j-preserved c =
    let s = c.loop-j.search in
    let taken = c.in-Some.ensures.popped in
    let stands = subst (λ w. model searching s.seek ≡ turns (tests w) s.seek.head (fresh (tests w))) (sym c.loop-j.invariant.1) c.loop-j.invariant.0 in
    let visited = c.in_default-visit.ensures.stands ∙ ap (λ w. outs (tests w) c.in-Some.j w.n (model searching c.pop.new.self.seek)) c.pop.ensures.words
    ∙ ap₂ (λ j q. outs (tests s.words.now) j s.words.now.n (model searching q)) taken.giver taken.left in
    let made = turn_made s.words.now s.seek s.sound taken.ahead stands (model searching c.visit.new.self.seek) visited in
    let head = c.in_default-visit.ensures.still ∙ ap (λ q. q.head) taken.left in (
      made ∙ ap (λ h. turns (tests s.words.now) h (fresh (tests s.words.now))) (sym head)
          ∙ ap (λ w. turns (tests w) c.visit.new.self.seek.head (fresh (tests w))) c.loop-j.invariant.1,
      c.in_default-visit.ensures.words ∙ c.pop.ensures.words ∙ c.loop-j.invariant.1,
    )

pub returns : goal.returns
returns c =
    let s = c.loop-j.search in
    let popped = c.in_default.ensures.popped in
    let stands = subst (λ w. model searching s.seek ≡ turns (tests w) s.seek.head (fresh (tests w))) (sym c.loop-j.invariant.1) c.loop-j.invariant.0 in
    let whole : model searching c.pop.new.self.seek ≡ search_all (tests c.args.w.now) =
    ap (model searching) popped.1 ∙ turns_end s.words.now s.seek s.sound searching popped.0 stands ∙ ap (λ w. search_all (tests w)) c.loop-j.invariant.1 in
    record { ends = sym (ap (λ r. r.ends) whole); givers = sym (ap (λ r. r.reached) whole) }
