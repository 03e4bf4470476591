-- What a run works on, what it keeps, and what its answers mean.
use Rattle.std.specs.Prelude.{◌≡◌, ℕ, ◌<◌, Bool, true, false, ◌&&◌}
use Rattle.groups.specs.Group.{Group}
use Rattle.groups.specs.Sums.{Le, above, sum_below, keep}
use Rattle.flow.specs.Counts.{any_below}

-- a task for n members, numbered from 0
pub record Task (E : Type 0) : Type 0 where
  pub n : ℕ
  -- the weight of a member: what it has to give, and what it has to get
  pub w : ℕ → E
  -- giver j may give to receiver i
  pub permitted : ℕ → ℕ → Bool

-- where a run stands
pub record State (E : Type 0) : Type 0 where
  -- the transfer from giver j to receiver i
  pub x : ℕ → ℕ → E
  -- what giver j still has to give, and what receiver i still has to get
  pub g : ℕ → E
  pub r : ℕ → E

module _ (G : Group) (t : Task G.Element) where
  -- what holds of every state of a run
  pub record Inv (s : State G.Element) : Type 0 where
    -- transfers are at least zero, and zero where j may not give to i
    pub x_least : (j i : ℕ) → j < t.n → i < t.n → Le G G.nil (s.x j i)
    pub x_off : (j i : ℕ) → j < t.n → i < t.n → t.permitted j i ≡ false → s.x j i ≡ G.nil
    -- what is left to give and to get is at least zero
    pub g_least : (j : ℕ) → j < t.n → Le G G.nil (s.g j)
    pub r_least : (i : ℕ) → i < t.n → Le G G.nil (s.r i)
    -- what a giver has given with what it has left, and what a receiver has got with what it has left, is the weight
    pub rows : (j : ℕ) → j < t.n → G.plus (sum_below G t.n (λ i. s.x j i)) (s.g j) ≡ t.w j
    pub columns : (i : ℕ) → i < t.n → G.plus (sum_below G t.n (λ j. s.x j i)) (s.r i) ≡ t.w i

  -- y is a fair plan
  pub record Fair (y : ℕ → ℕ → G.Element) : Type 0 where
    -- transfers are at least zero, and zero where j may not give to i
    pub least : (j i : ℕ) → j < t.n → i < t.n → Le G G.nil (y j i)
    pub off : (j i : ℕ) → j < t.n → i < t.n → t.permitted j i ≡ false → y j i ≡ G.nil
    -- each member forfeits its weight, and gains its weight
    pub forfeits : (j : ℕ) → j < t.n → sum_below G t.n (λ i. y j i) ≡ t.w j
    pub gains : (i : ℕ) → i < t.n → sum_below G t.n (λ j. y j i) ≡ t.w i

  -- a set of givers that no giving and taking back leads out of
  pub record Closed (s : State G.Element) (S : ℕ → Bool) : Type 0 where
    -- every giver with something to give is in it
    pub starts : (j : ℕ) → j < t.n → above G (s.g j) ≡ true → S j ≡ true
    -- a receiver to whom one of them may give wants nothing
    pub full : (j i : ℕ) → j < t.n → i < t.n → S j ≡ true → t.permitted j i ≡ true → above G (s.r i) ≡ false
    -- and a giver who can take back from such a receiver is one of them
    pub back : (j i k : ℕ) → j < t.n → i < t.n → k < t.n → S j ≡ true → t.permitted j i ≡ true
        → above G (s.x k i) ≡ true → S k ≡ true

-- some giver of the set may give to receiver i
abbrev pub near : {E : Type 0} → Task E → (ℕ → Bool) → ℕ → Bool
near t S i = any_below t.n (λ j. S j && t.permitted j i)

-- what the members of a set weigh together
abbrev pub weight_of : (G : Group) → Task G.Element → (ℕ → Bool) → G.Element
weight_of G t S = sum_below G t.n (λ j. keep G (S j) (t.w j))
