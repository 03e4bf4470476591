-- A run on its way: the code's loop and the run of the theory.
use Rattle.std.proofs.Common.{◌≡◌, ℕ, suc, pred, ◌+◌, ◌*◌, ◌^◌, ◌<◌, ◌≤◌, Bool, true, false, ◌⊎◌, [], get_or, sym, refl, ap, ◌∙◌, subst, ap₂, inl, inr, add-one, arith}
use mathlib.Core.Path.{fun_ext}
use Rattle.std.proofs.lemmas.Nat.{mul-le}
use Rattle.std.proofs.lemmas.Bool.{cases_lt}
use Rattle.words.specs.Words.{bit, word_of}
use Rattle.words.proofs.Digits.{bit_none, bit_zero}
use Rattle.words.proofs.Marks.{word_same}
use Rattle.groups.specs.Group.{Ordered}
use Rattle.groups.specs.Sums.{Le}
use Rattle.flow.specs.Counts.{sum_n, bit as one}
use Rattle.flow.specs.Flow.{Task}
use Rattle.flow.specs.Routes.{augment, Route}
use Rattle.flow.specs.Search.{searching, found, search_all, trace}
use Rattle.flow.specs.Told.{told, search_of}
use Rattle.flow.specs.Runs.{pairs}
use Rattle.flow.specs.Outcomes.{limit, settled, way_to, step_held}
use Rattle.flow.specs.Reached.{Reached}
use Rattle.flow.proofs.Counting.{sum_n_most, bit_le}
use Rattle.flow.proofs.Reached.{found_route, reached_step, reached_outgrown, reached_planned, reached_blocked}
use Rattle.flow.proofs.Settled.{settled_from, settled_all}
use Rattle.amounts.specs.declared.Amount.{Ghosts}
use Rattle.planner.specs.declared.answer.Answer.TheVariants.{Plan, Blocked, Outgrown}
use Rattle.planner.specs.declared.tables.Tables.{Tables}
use Rattle.planner.specs.declared.way.Way.{Way}
use Rattle.planner.specs.Along.{links, least_on, fits_on, held_on, writable_on, stepped_on}
use Rattle.planner.specs.Answers.{answer_by, posed, Ran}
use Rattle.planner.specs.Finds.{Leads, Stuck}
use Rattle.planner.specs.Model.{tests}
use Rattle.planner.specs.Same.{Same, state}
use Rattle.planner.specs.Tables.{row}
use Rattle.planner.specs.Ways.{least_along, fits_along}
use Rattle.planner.proofs.Apart.{held_back_along}

-- the limit of a run of at most 64 members is small
pub limit_small : {E : Type 0} (t : Task E) → t.n ≤ 64 → limit t ≤ 258176
limit_small t h = small t.n (pairs t) (pred t.n) h (omega arith) most
  where
    row_most : (j : ℕ) → j < t.n → sum_n t.n (λ i. one (t.permitted j i)) ≤ t.n * 1
    row_most j l = sum_n_most t.n 1 (λ i. one (t.permitted j i)) (λ i m. bit_le (t.permitted j i) true (λ e. refl))

    most : pairs t ≤ t.n * (t.n * 1)
    most = sum_n_most t.n (t.n * 1) (λ j. sum_n t.n (λ i. one (t.permitted j i))) row_most

    small : (n p m : ℕ) → n ≤ 64 → m ≤ 63 → p ≤ n * (n * 1) → n + n + p * m ≤ 258176
    small n p m a b c = omega (arith, mul-le n (n * 1) 64 64 a (omega arith), mul-le p m 4096 63 (omega (arith, mul-le n (n * 1) 64 64 a (omega arith))) b)

module _ {V : Type 0} {g : Ghosts V} (t₀ : Tables V g) where
  -- what the tables pose as a run begins
  abbrev pub task : Task g.kind.group.Element
  task = posed g.kind t₀.words (row g.kind t₀.to_give.now)

  -- a run on its way
  pub record Running (t : Tables V g) (steps : ℕ) : Type 0 where
    pub same : Same t₀ t
    pub reached : Reached g.kind.group g.kind.held task steps (state t)

  module _ (t : Tables V g) (steps : ℕ) (p : Running t steps) where
    -- the words pose the tests that the state does
    agree : tests t.words ≡ told g.kind.group task (state t)
    agree =
        λ i. record {
          n = p.same.size i;
          permitted = λ a b. bit (get_or (p.same.rules i) a 0) b;
          starts = fun_ext t.kept.giving i;
          wants = fun_ext t.kept.getting i;
          above = fun_ext (λ a. fun_ext (t.kept.holding a)) i;
        }

    -- no way is found
    module _ (reached : ℕ) (h : Stuck t.words reached) where
      over : (search_of g.kind.group task (state t)).ends ≡ searching
      over = sym (ap (λ T. (search_all T).ends) agree) ∙ h.ends

      pub run_plans : t.words.givers ≡ 0 → Ran g.kind task (Plan steps) t.transfers.now t.to_give.now t.to_get.now
      run_plans e =
          let end = reached_planned g.kind.group g.kind.held task steps (state t) p.reached over
          (settled_from g.kind.group task (state t) (λ j l. sym (t.kept.giving j) ∙ ap (λ v. bit v j) e ∙ bit_zero j)) in
          record { answer = sym (ap (λ o. answer_by o.end o.steps) end); state = sym (ap (λ o. o.state) end) }

      pub run_blocks : 0 < t.words.givers → t.words.givers < 2 ^ 64 → reached < 2 ^ 64
          → Ran g.kind task (Blocked steps reached) t.transfers.now t.to_give.now t.to_get.now
      run_blocks some fits small =
          let end = reached_blocked g.kind.group g.kind.held task steps (state t) p.reached over (unsettled (settled g.kind.group task (state t)) refl) in
          let set : word_of 64 (search_of g.kind.group task (state t)).reached ≡ reached = ap (word_of 64) (sym (ap (λ T. (search_all T).reached) agree) ∙ h.givers) ∙ word_same 64 reached small in
          record { answer = sym (ap (λ o. answer_by o.end o.steps) end ∙ ap (Blocked steps) set); state = sym (ap (λ o. o.state) end) }
        where
          none : settled g.kind.group task (state t) ≡ true → (j : ℕ) → (j < t₀.words.n) ⊎ (t₀.words.n ≤ j) → bit t.words.givers j ≡ false
          none e j (inl l) = t.kept.giving j ∙ settled_all g.kind.group task (state t) e j l
          none e j (inr l) = t.words.fitted.givers j (subst (λ n. n ≤ j) (sym p.same.size) l)

          unsettled : (b : Bool) → settled g.kind.group task (state t) ≡ b → settled g.kind.group task (state t) ≡ false
          unsettled false e = e
          unsettled true e = absurd (omega (arith, bit_none 64 t.words.givers fits (λ j l. none e j (cases_lt j t₀.words.n))))

    -- a way is found
    module _ (y : Way) (h : Leads t.words y) where
      there : (search_of g.kind.group task (state t)).ends ≡ found y.receiver
      there = sym (ap (λ T. (search_all T).ends) agree) ∙ h.ends

      same_way : way_to g.kind.group task (state t) y.receiver ≡ links t y
      same_way = sym (ap₂ (λ T m. trace T m (search_all T) ((search_all T).from y.receiver) []) agree p.same.size) ∙ h.way

      pub apart : (d : g.kind.group.Element) → writable_on t y d ≡ held_on t y d
      apart d =
          held_back_along g.kind.group task (state t) g.kind.held d 0 (links t y).first (links t y).hops y.receiver
          (subst (λ r. Route g.kind.group task (state t) 0 r.first r.hops y.receiver) same_way (found_route g.kind.group task (state t) y.receiver there).1)

      module _ (r : Bool) (e : r ≡ fits_on t y (least_on t y)) (u : Tables V g) where
        -- whether the step is held, as the run sees it
        same_held : step_held g.kind.group g.kind.held (state t) (way_to g.kind.group task (state t) y.receiver).first (way_to g.kind.group task (state t) y.receiver).hops y.receiver ≡ r
        unfolding step_held
        same_held = ap (λ l. fits_along g.kind l (state t) y.receiver (least_along g.kind l (state t) y.receiver)) same_way ∙ sym e

        pub run_outgrown : r ≡ false → state u ≡ state t → Ran g.kind task (Outgrown steps) u.transfers.now u.to_give.now u.to_get.now
        run_outgrown refused left =
            let end = reached_outgrown g.kind.group g.kind.held task steps (state t) p.reached y.receiver there (same_held ∙ refused) in
            record { answer = sym (ap (λ o. answer_by o.end o.steps) end); state = left ∙ sym (ap (λ o. o.state) end) }

        pub run_steps : Ordered g.kind.group → ((j : ℕ) → j < t₀.words.n → Le g.kind.group g.kind.group.nil (row g.kind t₀.to_give.now j))
            → r ≡ true → Same t₀ u → state u ≡ stepped_on t y → Running u (steps + 1)
        run_steps L least done-so same done =
            record {
              same = same;
              reached =
                  subst (λ c. Reached g.kind.group g.kind.held task c (state u)) (sym (add-one steps))
                  (subst (Reached g.kind.group g.kind.held task (suc steps))
                  (sym (done ∙ ap (λ l. augment g.kind.group l.first l.hops y.receiver (state t)) (sym same_way)))
                  (reached_step g.kind.group L g.kind.held task least steps (state t) p.reached y.receiver there (same_held ∙ done-so)));
            }
