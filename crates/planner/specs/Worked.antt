-- Runs worked by hand, and the claim that each comes out as it was worked. Members are counted from 1 here.
use Rattle.std.specs.Prelude.{◌≡◌, ℕ, suc, ◌^◌, Bool, true, cond, not, ◌&&◌, List, [], ◌∷◌, ℤ, pos, neg_ℤ, ◌==◌}
use Rattle.std.specs.List.{AllByRecursion}
use Rattle.flow.specs.Counts.{any_below}
use Rattle.amounts.specs.Kind.{Kind}
use Rattle.amounts.specs.Moneys.{money}
use Rattle.amounts.specs.Drifts.{drift}
use Rattle.amounts.specs.declared.money.Money.{Money}
use Rattle.amounts.specs.declared.drift.Drift.{Drift}
use Rattle.planner.specs.declared.answer.Answer.{Answer}
use Rattle.planner.specs.declared.answer.Answer.TheVariants.{Plan, Blocked, Outgrown}
use Rattle.planner.specs.Answers.{answer_by, outcome_of}
use Rattle.planner.specs.Calls.{asked}

-- what a call is asked, and what its run is expected to come to; in a word the lowest binary digit stands for member 1
pub record Case (V : Type 0) : Type 0 where
  pub n : ℕ
  -- the weight of each member, and the word of the receivers to whom it may give
  pub weights : List V
  pub words : List ℕ
  pub answer : Answer
  -- giver, receiver and amount of each transfer; those that are not listed are zero
  pub transfers : List (ℕ × ℕ × V)

module _ {V : Type 0} (k : Kind V) where
  -- the amount that is listed for giver j and receiver i, or zero if none is
  abbrev pub listed : List (ℕ × ℕ × V) → ℕ → ℕ → k.group.Element
  listed [] j i = k.group.nil
  listed (e ∷ es) j i = cond (e.0 == j && e.1 == i) (k.element e.2) (listed es j i)

  -- two elements are not the same: one of them is not at most the other
  abbrev pub differ : k.group.Element → k.group.Element → Bool
  differ a b = not (k.group.le a b && k.group.le b a)

  -- the transfers are as expected, for every giver and every receiver
  abbrev pub transfers_as : Case V → (ℕ → ℕ → k.group.Element) → Bool
  transfers_as c x = not (any_below c.n (λ j. any_below c.n (λ i. differ (x j i) (listed c.transfers (suc j) (suc i)))))

  -- the run of what is asked has the answer and the transfers that are expected
  abbrev pub ComesOut : Case V → Type 0
  ComesOut c =
      let o = outcome_of k (asked k c.n c.weights c.words) in
      (answer_by o.end o.steps ≡ c.answer) × (transfers_as c o.state.x ≡ true)

-- so many units of money
abbrev pub units : ℕ → Money
units m = record { 0 = m }

-- three members of weights 2, 3 and 4 with no bars
-- step 1: 1 gives to 2, min(2, 3) = 2. left to give 0 3 4, to get 2 1 4
-- step 2: 2 gives to 1, min(3, 2) = 2. left to give 0 1 4, to get 0 1 4
-- step 3: 2 comes to 1, who is full and got from 2 alone, and gives to 3, min(1, 4) = 1. left to give 0 0 4, to get 0 1 3
-- step 4: 3 comes to 1, full, and from it to giver 2, then gives to 2, min(4, 1) = 1. left to give 0 0 3, to get 0 0 3
-- step 5: 3 comes to 1, full, and from it to giver 2, then to 2, full, and from it to giver 1; giver 2 has the turn and comes to 3, who wants 3:
--   3 gives to 1, 2 takes back from 1, and gives to 3, min(3, x(2,1) = 2, 3) = 2. left to give 0 0 1, to get 0 0 1
-- step 6: 3 comes to 1, who is full and by now got from 3 alone, then to 2, full, and from it to giver 1, who comes to 3, who wants 1:
--   3 gives to 2, 1 takes back from 2, and gives to 3, min(1, x(1,2) = 2, 1) = 1. nothing is left to give
abbrev pub no_bars : Case Money
no_bars =
    record {
      n = 3;
      weights = units 2 ∷ units 3 ∷ units 4 ∷ [];
      words = 0b110 ∷ 0b101 ∷ 0b011 ∷ [];
      answer = Plan 6;
      transfers = (1, 2, units 1) ∷ (1, 3, units 1) ∷ (2, 3, units 3) ∷ (3, 1, units 2) ∷ (3, 2, units 2) ∷ [];
    }

-- two members of weights 1 and 2 with no bars: 2 weighs more than 1, who alone may receive from it
-- step 1: 1 gives to 2, min(1, 2) = 1. left to give 0 2, to get 1 1
-- step 2: 2 gives to 1, min(2, 1) = 1. left to give 0 1, to get 0 1
-- then 2 comes to 1, who is full and got from 2 alone: no route, 2 is the giver reached
abbrev pub one_blocks : Case Money
one_blocks =
    record {
      n = 2;
      weights = units 1 ∷ units 2 ∷ [];
      words = 0b10 ∷ 0b01 ∷ [];
      answer = Blocked 2 0b10;
      transfers = (1, 2, units 1) ∷ (2, 1, units 1) ∷ [];
    }

-- one member alone has nobody to give to
abbrev pub alone : Case Money
alone = record { n = 1; weights = units 5 ∷ []; words = 0 ∷ []; answer = Blocked 0 0b1; transfers = [] }

-- weights 3, 4, 3 and 2, where 1 may give to 2 and 3, 2 to 3 and 4, 3 to 1, and 4 to 2: the last route takes back twice
-- step 1: 1 gives to 2, min(3, 4) = 3. left to give 0 4 3 2, to get 3 1 3 2
-- step 2: 2 gives to 3, min(4, 3) = 3. left to give 0 1 3 2, to get 3 1 0 2
-- step 3: 2 comes to 3, who is full and got from 2 alone, and gives to 4, min(1, 2) = 1. left to give 0 0 3 2, to get 3 1 0 1
-- step 4: 3 gives to 1, min(3, 3) = 3. left to give 0 0 0 2, to get 0 1 0 1
-- step 5: 4 gives to 2, min(2, 1) = 1. left to give 0 0 0 1, to get 0 0 0 1
-- step 6: 4 comes to 2, full, and from it to giver 1, who comes to 3, full, and from it to giver 2, who comes to 4, who wants 1:
--   4 gives to 2, 1 takes back from 2 and gives to 3, 2 takes back from 3 and gives to 4, min(1, x(1,2) = 3, x(2,3) = 3, 1) = 1.
--   nothing is left to give
abbrev pub takes_back : Case Money
takes_back =
    record {
      n = 4;
      weights = units 3 ∷ units 4 ∷ units 3 ∷ units 2 ∷ [];
      words = 0b0110 ∷ 0b1100 ∷ 0b0001 ∷ 0b0010 ∷ [];
      answer = Plan 6;
      transfers = (1, 2, units 2) ∷ (1, 3, units 1) ∷ (2, 3, units 2) ∷ (2, 4, units 2) ∷ (3, 1, units 3) ∷ (4, 2, units 2) ∷ [];
    }

-- weights 2, 2 and 3, where 1 and 2 may give to 3 alone, and 3 to both: 1 and 2 weigh more together than 3
-- step 1: 1 gives to 3, min(2, 3) = 2. left to give 0 2 3, to get 2 2 1
-- step 2: 2 gives to 3, min(2, 1) = 1. left to give 0 1 3, to get 2 2 0
-- step 3: 2 comes to 3, full, and from it to giver 1, who waits behind 3; 3 gives to 1, min(3, 2) = 2. left to give 0 1 1, to get 0 2 0
-- step 4: 2 as before; 3 comes to 1, who is full and got from 3 alone, and gives to 2, min(1, 2) = 1. left to give 0 1 0, to get 0 1 0
-- then 2 comes to 3, full, and from it to giver 1, who comes to nobody new: no route, 2 and 1 are the givers reached
abbrev pub two_block : Case Money
two_block =
    record {
      n = 3;
      weights = units 2 ∷ units 2 ∷ units 3 ∷ [];
      words = 0b100 ∷ 0b100 ∷ 0b011 ∷ [];
      answer = Blocked 4 0b011;
      transfers = (1, 3, units 2) ∷ (2, 3, units 1) ∷ (3, 1, units 2) ∷ (3, 2, units 1) ∷ [];
    }

-- the cases in money
abbrev pub money_cases : List (Case Money)
money_cases = no_bars ∷ one_blocks ∷ alone ∷ takes_back ∷ two_block ∷ []

-- this weight with this change
abbrev pub drift_of : ℕ → ℤ → Drift
drift_of weight change = record { weight = weight; change = change }

-- two members of one weight with changes 10^18 and −10^18, no bars
-- step 1: 1 would give to 2 the lesser, (5, −10^18), and have (0, 2 · 10^18) left to give, which is not held
abbrev pub far_apart : Case Drift
far_apart =
    record {
      n = 2;
      weights = drift_of 5 (pos (10 ^ 18)) ∷ drift_of 5 (neg_ℤ (pos (10 ^ 18))) ∷ [];
      words = 0b10 ∷ 0b01 ∷ [];
      answer = Outgrown 0;
      transfers = [];
    }

-- the same two as members 2 and 3, after member 1 of weight 1 and change 0: the steps before the refused one stand
-- step 1: 1 gives to 2 the lesser of (1, 0) and (5, 10^18), (1, 0). left to give (0, 0) (5, 10^18) (5, −10^18), to get (1, 0) (4, 10^18) (5, −10^18)
-- step 2: 2 gives to 1 the lesser of (5, 10^18) and (1, 0), (1, 0). left to give (0, 0) (4, 10^18) (5, −10^18), to get (0, 0) (4, 10^18) (5, −10^18)
-- step 3: 2 comes to 1, who is full and got from 2 alone, and would give to 3 the lesser of (4, 10^18) and (5, −10^18), (4, 10^18);
--   3 would have (1, −2 · 10^18) left to get, which is not held
abbrev pub later_apart : Case Drift
later_apart =
    record {
      n = 3;
      weights = drift_of 1 (pos 0) ∷ drift_of 5 (pos (10 ^ 18)) ∷ drift_of 5 (neg_ℤ (pos (10 ^ 18))) ∷ [];
      words = 0b110 ∷ 0b101 ∷ 0b011 ∷ [];
      answer = Outgrown 2;
      transfers = (1, 2, drift_of 1 (pos 0)) ∷ (2, 1, drift_of 1 (pos 0)) ∷ [];
    }

-- the cases in drift
abbrev pub drift_cases : List (Case Drift)
drift_cases = far_apart ∷ later_apart ∷ []

-- every case comes out as it was worked
abbrev pub WorkedRuns : Type 0
WorkedRuns = AllByRecursion (ComesOut money) money_cases × AllByRecursion (ComesOut drift) drift_cases
