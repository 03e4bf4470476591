-- What the general plan call answers and leaves, said of the task that the members pose.
use Rattle.std.specs.Prelude.{◌≡◌, true, List}
use Rattle.flow.specs.Flow.{Task}
use Rattle.flow.specs.Outcomes.{WithinMembers}
use Rattle.amounts.specs.Kind.{Kind}
use Rattle.planner.specs.declared.answer.Answer.{Answer}
use Rattle.planner.specs.Answers.{Ran}
use Rattle.planner.specs.Calls.{Meaning}
use Rattle.planner.specs.Tables.{state_of, values}

module _ {V : Type 0} (k : Kind V) where
  -- the answer and the three tables of the run of a task
  pub record Answered (t : Task k.group.Element) (a : Answer) (xs gs rs : List V) : Type 0 where
    -- they are those of the run, entry by entry
    pub ran : Ran k t a xs gs rs
    -- beyond the members nothing is given, and nothing is left to give or to get
    pub within : WithinMembers k.group t (state_of k xs gs rs)
    -- every entry is a value
    pub x_values : values k xs ≡ true
    pub g_values : values k gs ≡ true
    pub r_values : values k rs ≡ true
    -- what they mean
    pub means : Meaning k t a (state_of k xs gs rs)
