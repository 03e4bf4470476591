-- The plan call of a circle, from what the planner says of the run.
use Rattle.std.proofs.Common.{◌≡◌, ℕ, zero, suc, ◌+◌, ◌-◌, ◌*◌, ◌/◌, ◌%◌, ◌<◌, Bool, true, false, cond, not, ◌&&◌, ltb, List, [], ◌∷◌, length, get_or, pos, nat_abs, None, sym, refl, ap, ◌∙◌, subst, arith}
use lib.Signed.{le_z}
use Rattle.std.proofs.lemmas.Int.{ints}
use Rattle.std.proofs.lemmas.List.FromFn.{fill_by_all}
use Rattle.std.proofs.lemmas.Bool.{and_parts, and_from, not_from_false, ltb-true, not-true, lt-ltb, cond-true, true≢false}
use Rattle.groups.specs.Groups.{whole}
use Rattle.flow.specs.Flow.{Fair}
use Rattle.flow.specs.Outcomes.{End, planned as planned_end, blocked, outgrown}
use Rattle.words.specs.Words.{bit}
use Rattle.amounts.specs.Drifts.{drift}
use Rattle.amounts.specs.declared.drift.Drift.{Drift}
use Rattle.amounts.specs.Moneys.{money}
use Rattle.amounts.specs.declared.money.Money.{Money}
use Rattle.amounts.proofs.MoneyBelow.{money_closed_below}
use Rattle.planner.specs.declared.answer.Answer.{Answer}
use Rattle.planner.specs.declared.answer.Answer.TheVariants.{Plan, Blocked, Outgrown}
use Rattle.planner.specs.Answers.{answer_by}
use Rattle.circles.specs.Answered.{Answered}
use Rattle.planner.specs.Tables.{row, table}
use Rattle.circles.specs.declared.members.Members.{Members}
use Rattle.circles.specs.declared.state.State.{State}
use Rattle.circles.specs.Calls.{nothing, no_transfers, voided, transfer_refusal}
use Rattle.circles.specs.Plans.{listed, table_of, run_of, is_plan, settled, planned, told_by, PlanMeans, TransferMeans}
use Rattle.circles.specs.Sound.{plan_for, Sound}
use Rattle.circles.specs.Tasks.{permits, money_task, drift_task}
use Rattle.circles.specs.Outlooks.{Foretells}
use Rattle.circles.proofs.Keeps.{void_sound, receiver_within}
use Rattle.circles.proofs.Soon.{fair_later, outweighs_later, fails_later}

-- a list is the list of its entries
listed_is : {V : Type 0} (f : ℕ → V) (xs : List V) (n : ℕ) (d : V) → length xs ≡ n → ((k : ℕ) → k < n → get_or xs k d ≡ f k) → xs ≡ listed n f
unfolding listed
listed_is f xs n d e h = fill_by_all f xs n d e h

row_money : (xs : List Money) (p : ℕ) → row money xs p ≡ pos (get_or xs p nothing).0
unfolding row
row_money [] p = refl
row_money (x ∷ xs) zero = refl
row_money (x ∷ xs) (suc p) = row_money xs p

entry_at : (xs : List Money) (j i : ℕ) → i < 64 → table money xs j i ≡ pos (get_or xs (64 * j + i) nothing).0
unfolding table
entry_at xs j i l = cond-true (ltb i 64) (row money xs (64 * j + i)) (pos 0) (lt-ltb i 64 l) ∙ row_money xs (64 * j + i)

entry_money : (xs : List Money) (p : ℕ) → table money xs (p / 64) (p % 64) ≡ pos (get_or xs p nothing).0
entry_money xs p =
    let e : 64 * (p / 64) + p % 64 ≡ p = omega arith in
    entry_at xs (p / 64) (p % 64) (omega arith) ∙ ap (λ q. pos (get_or xs q nothing).0) e

-- a table of transfers is that of its amounts by giver and receiver
table_is : (xs : List Money) → length xs ≡ 4096 → xs ≡ table_of (table money xs)
table_is xs e =
    listed_is (λ p. record { 0 = nat_abs (table money xs (p / 64) (p % 64)) }) xs 4096 nothing e
    (λ p l. ap (λ (v : ℕ). record { 0 = v }) (sym (ap nat_abs (entry_money xs p))))

-- whether a run ends with a plan, by its answer
plan_is_plan : (e : End) (c steps : ℕ) → answer_by e c ≡ Plan steps → is_plan e ≡ true
plan_is_plan planned_end c steps h = refl
plan_is_plan (blocked S) c steps h = cc
plan_is_plan outgrown c steps h = cc

no_plan : (e : End) (c : ℕ) → ((steps : ℕ) → answer_by e c ≡ Plan steps → ⊥) → is_plan e ≡ false
no_plan planned_end c h = absurd (h c refl)
no_plan (blocked S) c h = refl
no_plan outgrown c h = refl

-- a circle whose transfers are a fair plan
plan_sound : (s : State) (xs : List Money) → Sound s → length xs ≡ 4096 → Fair whole (money_task s.members) (table money xs)
    → Sound (record { number = s.number; members = s.members; total = s.total; standing = true; transfers = xs })
plan_sound s xs h size fair =
    record {
      manned = h.manned;
      stakes = h.stakes;
      shaped = size;
      void = λ p q. absurd (true≢false q);
      forfeits = λ j q. fair.forfeits j (ltb-true j s.members.count q);
      gains = λ i q. fair.gains i (ltb-true i s.members.count q);
      permitted = λ j i q.
          let both = and_parts (ltb j s.members.count && ltb i s.members.count) (not (permits s.members j i)) q in
          let n = and_parts (ltb j s.members.count) (ltb i s.members.count) both.0 in
          fair.off j i (ltb-true j s.members.count n.0) (ltb-true i s.members.count n.1) (not-true (permits s.members j i) both.1);
    }

module _ (s : State) (a : Answer) (xs gs rs : List Money) (size : length xs ≡ 4096) (P : Answered money (money_task s.members) a xs gs rs) where
  -- what the run leaves, before the answer is settled
  abbrev left_by : State
  left_by = record { number = s.number; members = s.members; total = s.total; standing = s.standing; transfers = xs }

  -- the run's transfers are in the table
  transfers_are : xs ≡ table_of (run_of s.members).state.x
  transfers_are = table_is xs size ∙ ap (λ st. table_of st.x) P.ran.state

  unfoldable with_plan : Bool → List Money → State
  with_plan b ts = record { number = s.number; members = s.members; total = s.total; standing = b; transfers = ts }

  planned_with : (steps : ℕ) → a ≡ Plan steps → with_plan true xs ≡ planned s
  unfolding with_plan
  planned_with steps e =
      let end : is_plan (run_of s.members).end ≡ true = plan_is_plan (run_of s.members).end (run_of s.members).steps steps (sym P.ran.answer ∙ e) in
      subst (λ b. with_plan true xs ≡ with_plan b (cond b (table_of (run_of s.members).state.x) no_transfers)) (sym end) (ap (with_plan true) transfers_are)

  planned_without : ((steps : ℕ) → a ≡ Plan steps → ⊥) → voided s s.members s.total ≡ planned s
  unfolding with_plan
  planned_without none =
      let end : is_plan (run_of s.members).end ≡ false = no_plan (run_of s.members).end (run_of s.members).steps (λ steps e. none steps (P.ran.answer ∙ e)) in
      subst (λ b. with_plan false no_transfers ≡ with_plan b (cond b (table_of (run_of s.members).state.x) no_transfers)) (sym end) refl

  -- settled it is what the definition of the call says
  pub planned_settled : settled left_by a ≡ planned s
  unfolding with_plan
  planned_settled = go a refl
    where
      go : (b : Answer) → a ≡ b → settled left_by b ≡ planned s
      go (Plan steps) e = planned_with steps e
      go (Blocked steps members) e = planned_without (λ c q. cc)
      go (Outgrown steps) e = planned_without (λ c q. cc)

  -- what the answer means, where the circle tells a fair plan if it is plan
  plan_means : (after : State) → ((steps : ℕ) → a ≡ Plan steps → Fair whole (money_task s.members) (told_by after)) → PlanMeans s.members a after
  plan_means after fair =
      record {
        few = P.means.few;
        fair = fair;
        complete = λ y f. P.means.complete y f (P.means.closed_below money_closed_below);
        outweighs = P.means.outweighs;
        no_plan = P.means.no_plan;
        never_outgrown = P.means.closed_below money_closed_below;
      }

  -- the circle that is left is sound
  pub settled_sound : Sound s → Sound (settled left_by a)
  settled_sound h = go a refl
    where
      go : (b : Answer) → a ≡ b → Sound (settled left_by b)
      go (Plan steps) e = plan_sound s xs h size (P.means.plan steps e)
      go (Blocked steps members) e = void_sound s s.members s.total h.manned h.stakes
      go (Outgrown steps) e = void_sound s s.members s.total h.manned h.stakes

  -- and tells what the answer means
  pub settled_means : PlanMeans s.members a (settled left_by a)
  settled_means = plan_means (settled left_by a) (λ steps e. subst (λ b. Fair whole (money_task s.members) (told_by (settled left_by b))) (sym e) (P.means.plan steps e))

-- what an outlook says, from what the planner says of weights with their changes
pub foretold : (ms : Members) (a : Answer) (xs gs rs : List Drift) → Answered drift (drift_task ms) a xs gs rs → Foretells ms a (table drift xs)
foretold ms a xs gs rs P =
    record {
      stays = λ steps e. fair_later (drift_task ms) (table drift xs) (P.means.plan steps e);
      outweighs = λ steps members e. outweighs_later (drift_task ms) (bit members) (P.means.outweighs steps members e);
      fails = λ steps members e. fails_later (drift_task ms) (bit members) (P.means.outweighs steps members e);
    }

at_least : (v : ℕ) → le_z (pos 0) (pos v) ≡ true
at_least v = grind (arith, ints)

-- the transfers of a standing plan are fair
told_fair : (s : State) → Sound s → s.standing ≡ true → Fair whole (money_task s.members) (told_by s)
told_fair s h e =
    let n = s.members.count in
    let for : (j : ℕ) → j < n → plan_for s j ≡ true = λ j l. and_from s.standing (ltb j n) e (lt-ltb j n l) in
    record {
      least = λ j i p q. subst (λ z. le_z (pos 0) z ≡ true) (sym (entry_at s.transfers j i (omega (arith, h.manned.room)))) (at_least (get_or s.transfers (64 * j + i) nothing).0);
      off = λ j i p q none. h.permitted j i (and_from (plan_for s j && plan_for s i) (not (permits s.members j i)) (and_from (plan_for s j) (plan_for s i) (for j p) (for i q)) (not_from_false (permits s.members j i) none));
      forfeits = λ j p. h.forfeits j (for j p);
      gains = λ i p. h.gains i (for i p);
    }

pub transfer_means : (s : State) (giver receiver j i : ℕ) → Sound s → transfer_refusal s.members.count giver receiver ≡ None → j ≡ giver - 1 → i ≡ receiver - 1
    → TransferMeans s giver receiver (get_or s.transfers (64 * j + i) nothing)
transfer_means s giver receiver j i h told a b =
    let l = receiver_within s.members.count giver receiver told in
    let at : 64 * (giver - 1) + (receiver - 1) ≡ 64 * j + i = cc in
    rw (← at)
    (record {
      one = sym (entry_at s.transfers (giver - 1) (receiver - 1) (omega (arith, h.manned.room)));
      fair = told_fair s h;
      void = h.void (64 * (giver - 1) + (receiver - 1));
    })
