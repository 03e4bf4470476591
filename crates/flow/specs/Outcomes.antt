-- A run with amounts of a kind that holds only some elements: how it ends, and what each end means.
use Rattle.std.specs.Prelude.{◌≡◌, ℕ, zero, suc, pred, ◌+◌, ◌*◌, ◌<◌, ◌≤◌, Bool, true, false, not, ◌&&◌, List, [], ◌≢◌}
use Rattle.groups.specs.Group.{Group}
use Rattle.groups.specs.Sums.{Le, Lt, above, minus, sum_below}
use Rattle.flow.specs.Counts.{any_below}
use Rattle.flow.specs.Flow.{Task, State, Inv, Fair, near, weight_of}
use Rattle.flow.specs.Routes.{Hop, amount, augment, held_along, Route}
use Rattle.flow.specs.Search.{Ends, searching, found, Way, trace}
use Rattle.flow.specs.Told.{search_of, told}
use Rattle.flow.specs.Runs.{begin, pairs}

-- the amounts that a step from giver v over the hops to receiver z writes are all held
unfoldable pub step_held : (G : Group) → (G.Element → Bool) → State G.Element → ℕ → List Hop → ℕ → Bool
step_held G held s v hs z =
    let d = amount G s v hs z in
    held_along G held d v hs z s.x && (held (minus G (s.g v) d) && held (minus G (s.r z) d))

-- how a run ends: with a plan, with the givers that block one, or at a step whose amounts are not all held
pub data End : Type 0 where
  planned : End
  blocked : (ℕ → Bool) → End
  outgrown : End

-- the count of the steps done, the end, and the state that they left
pub record Outcome (E : Type 0) : Type 0 where
  pub steps : ℕ
  pub end : End
  pub state : State E

-- the most steps that a run can have: 2n + a(n − 1), with n members and a permitted pairs
abbrev pub limit : {E : Type 0} → Task E → ℕ
limit t = t.n + t.n + pairs t * pred t.n

-- nobody has anything left to give
unfoldable pub settled : (G : Group) → Task G.Element → State G.Element → Bool
settled G t s = not (any_below t.n (λ j. above G (s.g j)))

-- the way that the search found to receiver z
abbrev pub way_to : (G : Group) → Task G.Element → State G.Element → ℕ → Way
way_to G t s z = let q = search_of G t s in trace (told G t s) t.n q (q.from z) []

-- the end where no route is left: a plan if all is given, else blocked by the givers reached
abbrev pub verdict : Bool → (ℕ → Bool) → End
verdict true S = planned
verdict false S = blocked S

-- a step that is held is done and the run goes on, any other is refused whole and the run ends before it
abbrev pub step_at : {E : Type 0} → Bool → Outcome E → ℕ → State E → Outcome E
step_at true more c s = more
step_at false more c s = record { steps = c; end = outgrown; state = s }

module _ (G : Group) (held : G.Element → Bool) (t : Task G.Element) where
  -- what comes after c steps, by the end of the search at s: the verdict, or a step and what comes after it
  abbrev pub turn_by : Ends → (State G.Element → Outcome G.Element) → ℕ → State G.Element → Outcome G.Element
  turn_by searching more c s = record { steps = c; end = verdict (settled G t s) (search_of G t s).reached; state = s }
  turn_by (found z) more c s =
      let way = way_to G t s z in
      step_at (step_held G held s way.first way.hops z) (more (augment G way.first way.hops z s)) c s

  -- the run from state s, after c steps; the first number is how many searches it may still make
  unfoldable pub run : ℕ → ℕ → State G.Element → Outcome G.Element
  run zero c s = record { steps = c; end = outgrown; state = s }
  run (suc b) c s = turn_by (search_of G t s).ends (λ later. run b (suc c) later) c s

  -- the outcome of the whole run, which needs a search for each step and one at its end
  unfoldable pub outcome : Outcome G.Element
  outcome = run (suc (limit t)) 0 (begin G t)

  -- every amount of the members is held
  pub record AllHeld (s : State G.Element) : Type 0 where
    pub x_held : (j i : ℕ) → j < t.n → i < t.n → held (s.x j i) ≡ true
    pub g_held : (j : ℕ) → j < t.n → held (s.g j) ≡ true
    pub r_held : (i : ℕ) → i < t.n → held (s.r i) ≡ true

  -- at s the step along the way that the search finds, a shortest route, would leave some amount that is not held
  pub record Outgrows (s : State G.Element) : Type 0 where
    pub receiver : ℕ
    pub arrives : (search_of G t s).ends ≡ found receiver
    pub route : Route G t s 0 (way_to G t s receiver).first (way_to G t s receiver).hops receiver
    pub wants : above G (s.r receiver) ≡ true
    pub passes : AllHeld (augment G (way_to G t s receiver).first (way_to G t s receiver).hops receiver s) → ⊥

  -- what an outcome says of the task
  pub record Answered (o : Outcome G.Element) : Type 0 where
    -- the steps are within the limit, every amount is held, and each member's amounts add up to its weight
    pub few : o.steps ≤ limit t
    pub keeps : AllHeld o.state
    pub sums : Inv G t o.state
    -- planned: the transfers are a fair plan, and nothing is left to give
    pub plan : o.end ≡ planned → Fair G t o.state.x
    pub given : o.end ≡ planned → (j : ℕ) → j < t.n → o.state.g j ≡ G.nil
    -- blocked: the set weighs more than all who may receive from it, by what is left to give, and no plan is fair
    pub blocks : (S : ℕ → Bool) → o.end ≡ blocked S → Lt G (weight_of G t (near t S)) (weight_of G t S)
    pub shortfall : (S : ℕ → Bool) → o.end ≡ blocked S
        → sum_below G t.n o.state.g ≡ minus G (weight_of G t S) (weight_of G t (near t S))
    pub no_plan : (S : ℕ → Bool) → o.end ≡ blocked S → (y : ℕ → ℕ → G.Element) → Fair G t y → ⊥
    -- a run that is not outgrown ends with a plan where there is a fair one
    pub decides : (o.end ≢ outgrown) → (y : ℕ → ℕ → G.Element) → Fair G t y → o.end ≡ planned
    -- outgrown: the next step would have left some amount that is not held
    pub means : o.end ≡ outgrown → Outgrows o.state

-- beyond the members nothing is given, and nothing is left to give or to get
pub record WithinMembers (G : Group) (t : Task G.Element) (s : State G.Element) : Type 0 where
  pub x_giver : (j i : ℕ) → t.n ≤ j → s.x j i ≡ G.nil
  pub x_receiver : (j i : ℕ) → t.n ≤ i → s.x j i ≡ G.nil
  pub g_beyond : (j : ℕ) → t.n ≤ j → s.g j ≡ G.nil
  pub r_beyond : (i : ℕ) → t.n ≤ i → s.r i ≡ G.nil

-- every element between zero and a held element is held
abbrev pub ClosedBelow : (G : Group) → (G.Element → Bool) → Type 0
ClosedBelow G held = (e top : G.Element) → held top ≡ true → Le G G.nil e → Le G e top → held e ≡ true
