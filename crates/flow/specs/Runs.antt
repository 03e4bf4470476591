-- Where a run starts, and the states that steps along shortest routes lead to.
use Rattle.std.specs.Prelude.{◌≡◌, ℕ, suc, pred, ◌+◌, ◌*◌, ◌<◌, ◌≤◌, true, List}
use Rattle.groups.specs.Group.{Group}
use Rattle.groups.specs.Sums.{Le, above}
use Rattle.flow.specs.Counts.{sum_n, bit}
use Rattle.flow.specs.Flow.{Task, State, Inv}
use Rattle.flow.specs.Routes.{Hop, augment, Route}

-- the start: no transfers, and each member has its weight to give and to get
abbrev pub begin : (G : Group) → Task G.Element → State G.Element
begin G t = record { x = λ j i. G.nil; g = t.w; r = t.w }

-- s is come to from the start by k steps, each along some shortest route to a receiver that wants something to get
pub data Run (G : Group) (t : Task G.Element) : ℕ → State G.Element → Type 0 where
  started : Run G t 0 (begin G t)
  stepped : {k : ℕ} {s : State G.Element} (v : ℕ) (hs : List Hop) (z : ℕ) → Run G t k s → Route G t s 0 v hs z → above G (s.r z) ≡ true
      → Run G t (suc k) (augment G v hs z s)

-- how many pairs are permitted
abbrev pub pairs : {E : Type 0} → Task E → ℕ
pairs t = sum_n t.n (λ j. sum_n t.n (λ i. bit (t.permitted j i)))

-- every state of a run over weights at least zero keeps the invariant, and comes after at most 2 n + a (n - 1) steps, with a permitted pairs
abbrev pub Bounded : Group → Type 0
Bounded G = (t : Task G.Element) → ((j : ℕ) → j < t.n → Le G G.nil (t.w j))
    → (k : ℕ) (s : State G.Element) → Run G t k s → Inv G t s × (k ≤ t.n + t.n + pairs t * pred t.n)
