-- What an answer means, from what the outcome of the run means.
use Rattle.std.proofs.Common.{◌≡◌, ℕ, zero, suc, ◌+◌, ◌*◌, ◌/◌, ◌%◌, ◌<◌, ◌≤◌, Bool, true, false, cond, ◌&&◌, ◌||◌, eqb, List, sym, refl, ap, ◌∙◌, subst, ap₂, arith}
use Rattle.words.specs.Words.{bit, word_of}
use Rattle.groups.specs.Group.{Group, Ordered}
use Rattle.groups.specs.Sums.{Le, Lt, minus, keep}
use Rattle.groups.proofs.Totals.{sum_ext}
use Rattle.flow.specs.Counts.{any_below}
use Rattle.flow.specs.Flow.{Task, near, weight_of}
use Rattle.flow.specs.Outcomes.{End, planned, blocked, outgrown, limit, Answered}
use Rattle.flow.proofs.Outcomes.{answered, never_outgrown, exclude}
use Rattle.amounts.specs.Kind.{Kind, Lawful}
use Rattle.planner.specs.declared.answer.Answer.{Answer}
use Rattle.planner.specs.declared.answer.Answer.TheVariants.{Plan, Blocked, Outgrown}
use Rattle.planner.specs.Answers.{answer_by, steps_of, outcome_of, Ran}
use Rattle.planner.specs.Calls.{Meaning}
use Rattle.planner.specs.Tables.{state_of}

-- the places of the number of a set are the set
bit_word : (m : ℕ) (S : ℕ → Bool) (j : ℕ) → j < m → bit (word_of m S) j ≡ S j
unfolding bit word_of
bit_word zero S j h = absurd (omega arith)
bit_word (suc m) S zero h = low (S 0) (word_of m (λ k. S (suc k)))
  where
    low : (b : Bool) (v : ℕ) → eqb ((cond b 1 0 + 2 * v) % 2) 1 ≡ b
    low true v = let e : (1 + 2 * v) % 2 ≡ 1 = omega arith in ap (λ d. eqb d 1) e
    low false v = let e : (0 + 2 * v) % 2 ≡ 0 = omega arith in ap (λ d. eqb d 1) e
bit_word (suc m) S (suc j) h = ap (λ v. bit v j) (high (S 0) (word_of m (λ k. S (suc k)))) ∙ bit_word m (λ k. S (suc k)) j (omega arith)
  where
    high : (b : Bool) (v : ℕ) → (cond b 1 0 + 2 * v) / 2 ≡ v
    high true v = omega arith
    high false v = omega arith

any_ext : (n : ℕ) (p q : ℕ → Bool) → ((j : ℕ) → j < n → p j ≡ q j) → any_below n p ≡ any_below n q
any_ext zero p q e = refl
any_ext (suc n) p q e = ap₂ (λ a b. a || b) (e n (omega arith)) (any_ext n p q (λ j l. e j (omega arith)))

-- two sets that agree on the members weigh the same
module _ (G : Group) (L : Ordered G) (t : Task G.Element) (S T : ℕ → Bool) (same : (j : ℕ) → j < t.n → S j ≡ T j) where
  weight_same : weight_of G t S ≡ weight_of G t T
  weight_same = sum_ext G L t.n (λ j. keep G (S j) (t.w j)) (λ j. keep G (T j) (t.w j)) (λ j l. ap (λ b. keep G b (t.w j)) (same j l))

  near_same : (i : ℕ) → near t S i ≡ near t T i
  near_same i = any_ext t.n (λ j. S j && t.permitted j i) (λ j. T j && t.permitted j i) (λ j l. ap (λ b. b && t.permitted j i) (same j l))

-- what an answer tells of the end
plan_end : (e : End) (c steps : ℕ) → answer_by e c ≡ Plan steps → e ≡ planned
plan_end planned c steps h = refl
plan_end (blocked S) c steps h = let z : ◌≡◌ {A = ℕ} 0 1 = cc in absurd (omega arith)
plan_end outgrown c steps h = let z : ◌≡◌ {A = ℕ} 0 1 = cc in absurd (omega arith)

outgrown_end : (e : End) (c steps : ℕ) → answer_by e c ≡ Outgrown steps → e ≡ outgrown
outgrown_end planned c steps h = let z : ◌≡◌ {A = ℕ} 0 1 = cc in absurd (omega arith)
outgrown_end (blocked S) c steps h = let z : ◌≡◌ {A = ℕ} 0 1 = cc in absurd (omega arith)
outgrown_end outgrown c steps h = refl

blocked_end : (e : End) (c steps members : ℕ) → answer_by e c ≡ Blocked steps members → (S : ℕ → Bool) × (e ≡ blocked S) × (word_of 64 S ≡ members)
blocked_end planned c steps members h = let z : ◌≡◌ {A = ℕ} 0 1 = cc in absurd (omega arith)
blocked_end (blocked S) c steps members h = (S, refl, cc)
blocked_end outgrown c steps members h = let z : ◌≡◌ {A = ℕ} 0 1 = cc in absurd (omega arith)

steps_same : (e : End) (c : ℕ) → steps_of (answer_by e c) ≡ c
steps_same planned c = refl
steps_same (blocked S) c = refl
steps_same outgrown c = refl

module _ {V : Type 0} (k : Kind V) (law : Lawful k) (t : Task k.group.Element) (size : t.n ≤ 64)
    (least : (j : ℕ) → j < t.n → Le k.group k.group.nil (t.w j)) (held : (j : ℕ) → j < t.n → k.held (t.w j) ≡ true) where
  all : Answered k.group k.held t (outcome_of k t)
  all = answered k.group law.ordered k.held t least held law.nil_held

  set_same : (S : ℕ → Bool) (members : ℕ) → word_of 64 S ≡ members → (j : ℕ) → j < t.n → S j ≡ bit members j
  set_same S members e j l = sym (bit_word 64 S j (omega arith)) ∙ ap (λ v. bit v j) e

  pub meaning : (a : Answer) → a ≡ answer_by (outcome_of k t).end (outcome_of k t).steps → Meaning k t a (outcome_of k t).state
  meaning a told =
      record {
        few = subst (λ n. n ≤ limit t) (sym (ap steps_of told ∙ steps_same (outcome_of k t).end (outcome_of k t).steps)) all.few;
        sums = all.sums;
        plan = λ steps e. all.plan (plan_end (outcome_of k t).end (outcome_of k t).steps steps (sym told ∙ e));
        given = λ steps e. all.given (plan_end (outcome_of k t).end (outcome_of k t).steps steps (sym told ∙ e));
        outweighs = λ steps members e. let b = blocked_end (outcome_of k t).end (outcome_of k t).steps steps members (sym told ∙ e) in weighs b.0 members b.2 (all.blocks b.0 b.1);
        shortfall =
            λ steps members e.
            let b = blocked_end (outcome_of k t).end (outcome_of k t).steps steps members (sym told ∙ e) in
            all.shortfall b.0 b.1 ∙ ap₂ (minus k.group) (weight_of_set b.0 members b.2) (near_of b.0 members b.2);
        no_plan =
            λ steps members e.
            let b = blocked_end (outcome_of k t).end (outcome_of k t).steps steps members (sym told ∙ e) in
            all.no_plan b.0 b.1;
        plan_unblocked =
            λ steps e other weights zero_held S.
            exclude k.group law.ordered k.held other t least held law.nil_held weights zero_held S
            (plan_end (outcome_of k t).end (outcome_of k t).steps steps (sym told ∙ e));
        blocked_unplanned =
            λ steps members e other weights zero_held p.
            let b = blocked_end (outcome_of k t).end (outcome_of k t).steps steps members (sym told ∙ e) in
            exclude k.group law.ordered other k.held t least weights zero_held held law.nil_held b.0 p b.1;
        complete =
            λ y fair not-outgrown. (
              (outcome_of k t).steps,
              told ∙ ap (λ e. answer_by e (outcome_of k t).steps) (all.decides (λ e. not-outgrown (outcome_of k t).steps (told ∙ ap (λ e. answer_by e (outcome_of k t).steps) e)) y fair),
            );
        closed_below =
            λ below steps e.
            never_outgrown k.group law.ordered k.held t least held law.nil_held below.upward
            (outgrown_end (outcome_of k t).end (outcome_of k t).steps steps (sym told ∙ e));
        outgrown = λ steps e. all.means (outgrown_end (outcome_of k t).end (outcome_of k t).steps steps (sym told ∙ e));
      }
    where
      weight_of_set : (S : ℕ → Bool) (members : ℕ) → word_of 64 S ≡ members → weight_of k.group t S ≡ weight_of k.group t (bit members)
      weight_of_set S members e = weight_same k.group law.ordered t S (bit members) (set_same S members e)

      near_of : (S : ℕ → Bool) (members : ℕ) → word_of 64 S ≡ members → weight_of k.group t (near t S) ≡ weight_of k.group t (near t (bit members))
      near_of S members e =
          weight_same k.group law.ordered t (near t S) (near t (bit members))
          (λ i l. near_same k.group law.ordered t S (bit members) (set_same S members e) i)

      weighs : (S : ℕ → Bool) (members : ℕ) → word_of 64 S ≡ members → Lt k.group (weight_of k.group t (near t S)) (weight_of k.group t S)
          → Lt k.group (weight_of k.group t (near t (bit members))) (weight_of k.group t (bit members))
      weighs S members e h =
          subst (λ y. Lt k.group y (weight_of k.group t (bit members))) (near_of S members e)
          (subst (λ y. Lt k.group (weight_of k.group t (near t S)) y) (weight_of_set S members e) h)

  pub planned_means : (a : Answer) (xs gs rs : List V) → Ran k t a xs gs rs → Meaning k t a (state_of k xs gs rs)
  planned_means a xs gs rs r = subst (Meaning k t a) (sym r.state) (meaning a r.answer)
