use Rattle.std.proofs.Common.{◌≡◌, ℕ, ◌<◌, ◌≤◌, true, ◌⊎◌, length, set, refl, ◌∙◌, subst, inl, inr, add-one, arith, below_more}
use Rattle.std.proofs.lemmas.Bool.{cases_lt}
use Rattle.planner.specs.Calls.{all_first}
use Rattle.planner.specs.Tables.{row}
use Rattle.planner.proofs.Begins.{first_set, first_all}
use Rattle.planner.proofs.Entries.{row_here, row_else, row_past}
use Rattle.planner.proofs.call.clear.Goals as goal

pub loop-amount-init : goal.loop-amount-init
unfolding all_first
loop-amount-init g c = (refl, λ a h. absurd (omega arith))

pub loop-amount-preserved : goal.loop-amount-preserved
loop-amount-preserved g c =
    let k = g.K.Amount.kind in
    let vs = c.loop-amount.amount-items in (
      rw add-one (first_set k c.loop-amount.amount-index vs c.zero.result c.loop-amount.invariant.0 c.zero.ensures.0),
      below_more (λ a. row k (set vs c.loop-amount.amount-index c.zero.result) a ≡ k.group.nil) c.loop-amount.amount-index
          (λ a h. row_else k vs c.loop-amount.amount-index c.zero.result a (λ e. omega arith) ∙ c.loop-amount.invariant.1 a h)
          (row_here k vs c.loop-amount.amount-index c.zero.result (omega arith) ∙ c.zero.ensures.1),
    )

pub returns : goal.returns
returns g c =
    let k = g.K.Amount.kind in
    let vs = c.loop-amount.amount-items in
    let all : c.loop-amount.amount-index ≡ length vs = omega arith in
    record {
      values = first_all k vs (subst (λ n. all_first k.value n vs ≡ true) all c.loop-amount.invariant.0);
      zeros = λ i. zero-at i (cases_lt i c.loop-amount.amount-index);
    }
  where
    zero-at : (i : ℕ) → (i < c.loop-amount.amount-index) ⊎ (c.loop-amount.amount-index ≤ i) → row g.K.Amount.kind c.loop-amount.amount-items i ≡ g.K.Amount.kind.group.nil
    zero-at i (inl h) = c.loop-amount.invariant.1 i h
    zero-at i (inr h) = row_past g.K.Amount.kind c.loop-amount.amount-items i (omega arith)
