use Rattle.std.proofs.Common.{◌≡◌, ◌<◌, set, true, sym, ap, ◌∙◌, subst, arith}
use Rattle.groups.specs.Sums.{minus}
use Rattle.flow.specs.Routes.{taken}
use Rattle.planner.specs.declared.change.Change.TheVariants.{Take}
use Rattle.planner.specs.Tables.{row, table}
use Rattle.planner.proofs.Amounts.{give_at, get_at, give_still, get_still}
use Rattle.planner.proofs.Bumped.{change_given, change_stands, row_lowered}
use Rattle.planner.proofs.Stepped.{fits_least, give_room, get_room, writable, step_done}
use Rattle.planner.proofs.Walks.{receiver_inside}
use Rattle.planner.proofs.tables.Tables.step.Goals as goal

pub returns-then-not-fits-clause-fits : goal.returns-then-not-fits-clause-fits
returns-then-not-fits-clause-fits g c = c.if-not-fits.ensures ∙ fits_least c.args.self.now c.args.way.now (g.K.Amount.kind.element c.least-d.result) c.least-d.ensures.least

pub carry-j-requires-clause-room : goal.carry-j-requires-clause-room
carry-j-requires-clause-room g c = writable c.args.self.now c.args.way.now (g.K.Amount.kind.element c.least-d.result) c.least-d.ensures.least (sym c.if-not-fits.ensures) c.requires.apart

pub of-requires-clause-amount : goal.of-requires-clause-amount
of-requires-clause-amount g c = (give_at c.carry-j.new.self c.carry-j.result c.index-self-j.result (subst (λ n. c.carry-j.result < n) (sym c.carry-j.ensures.same.size) c.carry-j.ensures.giver.0)).0

pub unwrap-left-requires : goal.unwrap-left-requires
unwrap-left-requires g c =
    let k = g.K.Amount.kind in
    let t = c.args.self.now in
    let d = k.element c.least-d.result in
    let has = give_still c.carry-j.new.self t.to_give.now c.carry-j.ensures.gives c.carry-j.result c.index-self-j.result (subst (λ n. c.carry-j.result < n) (sym c.carry-j.ensures.same.size) c.carry-j.ensures.giver.0) in
    change_given k _ (Take c.least-d.result) (row k t.to_give.now c.carry-j.result) has c.of.result c.of.ensures
    (subst (λ j. k.held (minus k.group (row k t.to_give.now j) d) ≡ true) (sym c.carry-j.ensures.giver.1) (give_room t c.args.way.now d c.least-d.ensures.least (sym c.if-not-fits.ensures)))

pub of-requires-2-clause-amount : goal.of-requires-2-clause-amount
of-requires-2-clause-amount g c =
    let way = c.args.way.now in
    (get_at c.put_give.new.self way.receiver c.index-self-way.result (subst (λ n. way.receiver < n) (sym (c.put_give.ensures.same.size ∙ c.carry-j.ensures.same.size)) (receiver_inside c.args.self.now.words way c.requires.way))).0

pub unwrap-rest-requires : goal.unwrap-rest-requires
unwrap-rest-requires g c =
    let k = g.K.Amount.kind in
    let t = c.args.self.now in
    let way = c.args.way.now in
    let has = get_still c.put_give.new.self t.to_get.now (c.put_give.ensures.gets ∙ c.carry-j.ensures.gets) way.receiver c.index-self-way.result (subst (λ n. way.receiver < n) (sym (c.put_give.ensures.same.size ∙ c.carry-j.ensures.same.size)) (receiver_inside t.words way c.requires.way)) in
    change_given k _ (Take c.least-d.result) (row k t.to_get.now way.receiver) has c.of-2.result c.of-2.ensures (get_room t way (k.element c.least-d.result) c.least-d.ensures.least (sym c.if-not-fits.ensures))

pub returns-clause-fits : goal.returns-clause-fits
returns-clause-fits g c = c.if-not-fits.ensures ∙ fits_least c.args.self.now c.args.way.now (g.K.Amount.kind.element c.least-d.result) c.least-d.ensures.least

pub returns-clause-done : goal.returns-clause-done
returns-clause-done g c =
    let k = g.K.Amount.kind in
    let t = c.args.self.now in
    let way = c.args.way.now in
    let d = k.element c.least-d.result in
    let j = c.carry-j.result in
    let give = c.put_give.ensures in
    let get = c.put_get.ensures in
    let inside = receiver_inside t.words way c.requires.way in
    let gave = give_still c.carry-j.new.self t.to_give.now c.carry-j.ensures.gives j c.index-self-j.result (subst (λ n. j < n) (sym c.carry-j.ensures.same.size) c.carry-j.ensures.giver.0) in
    let got = get_still c.put_give.new.self t.to_get.now (give.gets ∙ c.carry-j.ensures.gets) way.receiver c.index-self-way.result (subst (λ n. way.receiver < n) (sym (give.same.size ∙ c.carry-j.ensures.same.size)) inside) in
    let left = change_stands k _ (Take c.least-d.result) (row k t.to_give.now j) gave c.of.result c.of.ensures c.unwrap-left.result c.unwrap-left.ensures in
    let rest = change_stands k _ (Take c.least-d.result) (row k t.to_get.now way.receiver) got c.of-2.result c.of-2.ensures c.unwrap-rest.result c.unwrap-rest.ensures in
    step_done t way d c.least-d.ensures.least c.put_get.new.self
    (ap (table k) (get.transfers ∙ give.transfers) ∙ c.carry-j.ensures.moved)
    (row_lowered k t.to_give.now c.put_get.new.self.to_give.now j c.unwrap-left.result d (get.gives ∙ give.written ∙ ap (λ l. set l j c.unwrap-left.result) c.carry-j.ensures.gives) (omega (arith, t.kept.gives, t.words.fitted.size, c.carry-j.ensures.giver.0)) left.1
    ∙ ap (λ a. taken k.group (row k t.to_give.now) a d) c.carry-j.ensures.giver.1)
    (row_lowered k t.to_get.now c.put_get.new.self.to_get.now way.receiver c.unwrap-rest.result d (get.written ∙ ap (λ l. set l way.receiver c.unwrap-rest.result) (give.gets ∙ c.carry-j.ensures.gets)) (omega (arith, t.kept.gets, t.words.fitted.size, inside)) rest.1)
