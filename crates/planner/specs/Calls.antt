-- The plan call: what it is asked, when it is refused, and what its answer means.
use Rattle.std.specs.Prelude.{◌≡◌, ℕ, zero, suc, ◌^◌, ◌<◌, ◌≤◌, Bool, true, cond, not, ◌&&◌, List, [], ◌∷◌, length, take, Option, ◌==◌, ◌≢◌, nat_le, nat_lt, slice_index}
use Rattle.words.specs.Words.{bit}
use Rattle.refusals.specs.declared.Refusal.{Refusal}
use Rattle.refusals.specs.declared.Refusal.TheVariants.{Length, MemberRange, PermissionWord, NotAnAmount}
use Rattle.refusals.specs.Judged.{first_of}
use Rattle.groups.specs.Sums.{Lt, minus, sum_below}
use Rattle.amounts.specs.Kind.{Kind, ClosedBelow}
use Rattle.flow.specs.Flow.{Task, State, Inv, Fair, near, weight_of}
use Rattle.flow.specs.Outcomes.{planned, blocked, outcome, limit, Outgrows, WithinMembers}
use Rattle.planner.specs.declared.answer.Answer.{Answer}
use Rattle.planner.specs.declared.answer.Answer.TheVariants.{Plan, Blocked, Outgrown}
use Rattle.planner.specs.Answers.{steps_of, Ran}
use Rattle.planner.specs.Tables.{row, values, state_of}

-- every number below the bound passes
unfoldable pub all_below : ℕ → (ℕ → Bool) → Bool
all_below zero p = true
all_below (suc n) p = all_below n p && p n

-- each of the first n entries of a table passes
unfoldable pub all_first : {V : Type 0} → (V → Bool) → ℕ → List V → Bool
all_first p zero vs = true
all_first p (suc n) [] = true
all_first p (suc n) (v ∷ vs) = p v && all_first p n vs

-- a permission word of giver j among n members: not its own bit, and no bit beyond n
abbrev pub word_fits : ℕ → ℕ → ℕ → Bool
word_fits n j word = not (bit word j) && nat_lt word (2 ^ n)

-- the permission words of all n givers
abbrev pub words_fit : ℕ → List ℕ → Bool
words_fit n words = all_below n (λ j. word_fits n j (slice_index words j))

module _ {V : Type 0} (k : Kind V) where
  -- a weight is a value, and not below zero
  abbrev pub weight_fits : V → Bool
  weight_fits v = k.value v && k.group.le k.group.nil (k.element v)

  -- the first n weights of a table
  abbrev pub weights_fit : ℕ → List V → Bool
  weights_fit n weights = all_first weight_fits n weights

  -- the five tables have the lengths that the call asks for
  abbrev pub lengths_fit : List V → List ℕ → List V → List V → List V → Bool
  lengths_fit weights words transfers gives gets =
      (length weights == 64 && length words == 64) && (length transfers == 4096 && (length gives == 64 && length gets == 64))

  -- why a plan call is refused, in this order: a length, the number of members, a permission word, a weight
  abbrev pub plan_refusal : ℕ → List V → List ℕ → List V → List V → List V → Option Refusal
  plan_refusal n weights words transfers gives gets =
      first_of
      ((not (lengths_fit weights words transfers gives gets), Length)
      ∷ (not (nat_le 1 n && nat_le n 64), MemberRange)
      ∷ (not (words_fit n words), PermissionWord)
      ∷ (not (weights_fit n weights), NotAnAmount)
      ∷ [])

  -- what the call is asked: n members, numbered from 0, with the first n weights and words; the rest does not count
  abbrev pub asked : ℕ → List V → List ℕ → Task k.group.Element
  asked n weights words =
      record {
        n = n;
        w = λ j. cond (nat_lt j n) (row k weights j) k.group.nil;
        permitted = λ j i. nat_lt j n && (nat_lt i n && bit (slice_index words j) i);
      }

  -- what lies beyond n plays no part, neither in whether the call is refused nor in what it is asked
  abbrev pub BeyondIgnored : ℕ → List V → List ℕ → List V → List V → List V → Type 0
  BeyondIgnored n weights words transfers gives gets =
      (weights' : List V) (words' : List ℕ) → length weights' ≡ length weights → length words' ≡ length words → take n weights' ≡ take n weights
      → take n words' ≡ take n words
      → (plan_refusal n weights' words' transfers gives gets ≡ plan_refusal n weights words transfers gives gets)
      × (asked n weights' words' ≡ asked n weights words)

  -- what the answer of a run and the state of its tables mean for a task
  pub record Meaning (t : Task k.group.Element) (a : Answer) (s : State k.group.Element) : Type 0 where
    -- no more steps than twice the members, and once less than the members for each permitted pair
    pub few : steps_of a ≤ limit t
    -- what each member has given and has still to give, and has got and has still to get, is its weight
    pub sums : Inv k.group t s
    -- plan: the transfers are a fair plan, and nothing is left to give
    pub plan : (steps : ℕ) → a ≡ Plan steps → Fair k.group t s.x
    pub given : (steps : ℕ) → a ≡ Plan steps → (j : ℕ) → j < t.n → s.g j ≡ k.group.nil
    -- blocked: the named members together weigh more than all who may receive from any of them, by what is left to
    -- give, and there is no fair plan, held or not
    pub outweighs : (steps members : ℕ) → a ≡ Blocked steps members
        → Lt k.group (weight_of k.group t (near t (bit members))) (weight_of k.group t (bit members))
    pub shortfall : (steps members : ℕ) → a ≡ Blocked steps members
        → sum_below k.group t.n s.g ≡ minus k.group (weight_of k.group t (bit members)) (weight_of k.group t (near t (bit members)))
    pub no_plan : (steps members : ℕ) → a ≡ Blocked steps members → (y : ℕ → ℕ → k.group.Element) → Fair k.group t y → ⊥
    -- under other limits of what is held the same task is not blocked where it has a plan, and has none where it is blocked
    pub plan_unblocked : (steps : ℕ) → a ≡ Plan steps → (held : k.group.Element → Bool) → ((j : ℕ) → j < t.n → held (t.w j) ≡ true)
        → held k.group.nil ≡ true → (S : ℕ → Bool) → (outcome k.group held t).end ≢ blocked S
    pub blocked_unplanned : (steps members : ℕ) → a ≡ Blocked steps members → (held : k.group.Element → Bool)
        → ((j : ℕ) → j < t.n → held (t.w j) ≡ true) → held k.group.nil ≡ true → (outcome k.group held t).end ≢ planned
    -- where there is a fair plan, held or not, the answer is plan, unless it is outgrown
    pub complete : (y : ℕ → ℕ → k.group.Element) → Fair k.group t y → ((steps : ℕ) → a ≢ Outgrown steps)
        → (steps : ℕ) × (a ≡ Plan steps)
    -- a kind that is closed below is never outgrown
    pub closed_below : ClosedBelow k → (steps : ℕ) → a ≢ Outgrown steps
    -- outgrown: the next step of the run would leave an amount that is not held
    pub outgrown : (steps : ℕ) → a ≡ Outgrown steps → Outgrows k.group k.held t s

  -- the answer and the three tables of a call that is not refused
  pub record Planned (n : ℕ) (weights : List V) (words : List ℕ) (a : Answer) (xs gs rs : List V) : Type 0 where
    -- they are those of the run, entry by entry
    pub ran : Ran k (asked n weights words) a xs gs rs
    -- beyond n nothing is given, and nothing is left to give or to get
    pub within : WithinMembers k.group (asked n weights words) (state_of k xs gs rs)
    -- every entry is a value
    pub x_values : values k xs ≡ true
    pub g_values : values k gs ≡ true
    pub r_values : values k rs ≡ true
    -- what they mean
    pub means : Meaning (asked n weights words) a (state_of k xs gs rs)
