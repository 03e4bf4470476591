-- The answer of a plan call, from the outcome of a run.
use Rattle.std.specs.Prelude.{◌≡◌, ℕ, List, slice_index}
use Rattle.words.specs.Words.{bit, word_of}
use Rattle.flow.specs.Flow.{Task}
use Rattle.flow.specs.Outcomes.{End, planned, blocked, outgrown, Outcome, outcome}
use Rattle.amounts.specs.Kind.{Kind}
use Rattle.planner.specs.declared.answer.Answer.{Answer}
use Rattle.planner.specs.declared.answer.Answer.TheVariants.{Plan, Blocked, Outgrown}
use Rattle.planner.specs.declared.state.Words.{Words}
use Rattle.planner.specs.Tables.{state_of}

-- the answer for an end after so many steps; the set is told only where it blocks
abbrev pub answer_by : End → ℕ → Answer
answer_by planned steps = Plan steps
answer_by (blocked S) steps = Blocked steps (word_of 64 S)
answer_by outgrown steps = Outgrown steps

-- the steps of an answer
abbrev pub steps_of : Answer → ℕ
steps_of (Plan steps) = steps
steps_of (Blocked steps members) = steps
steps_of (Outgrown steps) = steps

module _ {V : Type 0} (k : Kind V) where
  -- the task that words and weights pose
  abbrev pub posed : Words → (ℕ → k.group.Element) → Task k.group.Element
  posed w weights = record { n = w.n; w = weights; permitted = λ j i. bit (slice_index w.permitted j) i }

  -- the outcome of the run of a task, with the amounts that the kind holds
  abbrev pub outcome_of : Task k.group.Element → Outcome k.group.Element
  outcome_of t = outcome k.group k.held t

  -- the answer and the tables are those of the run
  pub record Ran (t : Task k.group.Element) (a : Answer) (xs gs rs : List V) : Type 0 where
    pub answer : a ≡ answer_by (outcome_of t).end (outcome_of t).steps
    pub state : state_of k xs gs rs ≡ (outcome_of t).state
