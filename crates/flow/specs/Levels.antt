-- How many rounds of giving away and taking back it takes to come to a giver or a receiver.
use Rattle.std.specs.Prelude.{◌≡◌, ℕ, zero, suc, pred, ◌+◌, ◌<◌, Bool, true, false, cond, ◌&&◌, ◌||◌}
use Rattle.groups.specs.Group.{Group}
use Rattle.groups.specs.Sums.{above}
use Rattle.flow.specs.Counts.{any_below, sum_n, count}
use Rattle.flow.specs.Flow.{Task, State, near}

-- giver v is come to within m rounds: it has something to give, or can take back from a receiver met within fewer
unfoldable pub within : (G : Group) → Task G.Element → State G.Element → ℕ → ℕ → Bool
within G t s zero v = above G (s.g v)
within G t s (suc m) v = within G t s m v || any_below t.n (λ i. above G (s.x v i) && near t (within G t s m) i)

-- receiver i is met within m rounds: some giver come to within m rounds may give to it
unfoldable pub met : (G : Group) → Task G.Element → State G.Element → ℕ → ℕ → Bool
met G t s m i = near t (within G t s m) i

module _ (G : Group) (t : Task G.Element) (s : State G.Element) where
  -- giver v is first come to in round m
  pub record At (m v : ℕ) : Type 0 where
    pub now : within G t s m v ≡ true
    pub before : (k : ℕ) → k < m → within G t s k v ≡ false

  -- receiver i is first met in round m
  pub record MetAt (m i : ℕ) : Type 0 where
    pub now : met G t s m i ≡ true
    pub before : (k : ℕ) → k < m → met G t s k i ≡ false

  -- a permitted pair that may still be emptied in a round after m
  unfoldable pub live : ℕ → ℕ → ℕ → Bool
  live k i m = t.permitted k i && cond (above G (s.x k i)) (met G t s m i) (within G t s m k)

  -- what each step lowers: the givers with something to give, the receivers that want something to get, and the live pairs of each round, counted
  unfoldable pub potential : ℕ
  potential =
      count t.n (λ j. above G (s.g j)) + count t.n (λ i. above G (s.r i))
      + sum_n t.n (λ k. sum_n t.n (λ i. count (pred t.n) (λ m. live k i m)))
