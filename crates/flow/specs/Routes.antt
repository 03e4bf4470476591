-- A route from a starting giver to a final receiver, and what giving along it does.
use Rattle.std.specs.Prelude.{◌≡◌, ℕ, suc, ◌<◌, Bool, true, cond, ◌&&◌, List, [], ◌∷◌, ◌==◌}
use Rattle.groups.specs.Group.{Group}
use Rattle.groups.specs.Sums.{above, lesser}
use Rattle.flow.specs.Flow.{Task, State}
use Rattle.flow.specs.Levels.{At, MetAt}

-- to a receiver, and from it back to a giver, who takes back from it
pub record Hop : Type 0 where
  pub over : ℕ
  pub to : ℕ

-- the amount at one place raised by d
unfoldable pub bump : (G : Group) → (ℕ → ℕ → G.Element) → ℕ → ℕ → G.Element → ℕ → ℕ → G.Element
bump G x v c d a b = cond (a == v && b == c) (G.plus (x a b) d) (x a b)

-- d from v over the hops to the receiver z
abbrev pub push : (G : Group) → G.Element → ℕ → List Hop → ℕ → (ℕ → ℕ → G.Element) → ℕ → ℕ → G.Element
push G d v [] z x = bump G x v z d
push G d v (h ∷ hs) z x = push G d h.to hs z (bump G (bump G x v h.over d) h.to h.over (G.neg d))

-- the least of a and of the amounts on the links back, taken from the route's end
abbrev pub least : (G : Group) → (ℕ → ℕ → G.Element) → G.Element → List Hop → G.Element
least G x a [] = a
least G x a (h ∷ hs) = lesser G (x h.to h.over) (least G x a hs)

-- the amount that a route can carry: the least of what its first giver has to give, its last receiver wants, and each link back has
unfoldable pub amount : (G : Group) → State G.Element → ℕ → List Hop → ℕ → G.Element
amount G s v hs z = lesser G (s.g v) (least G s.x (s.r z) hs)

-- the amount at one place lowered by d
unfoldable pub taken : (G : Group) → (ℕ → G.Element) → ℕ → G.Element → ℕ → G.Element
taken G f v d j = cond (j == v) (G.plus (f j) (G.neg d)) (f j)

-- the state after d is given from v along the hops to z
abbrev pub give : (G : Group) → G.Element → ℕ → List Hop → ℕ → State G.Element → State G.Element
give G d v hs z s = record { x = push G d v hs z s.x; g = taken G s.g v d; r = taken G s.r z d }

-- the state after as much as the route can carry is given along it
abbrev pub augment : (G : Group) → ℕ → List Hop → ℕ → State G.Element → State G.Element
augment G v hs z s = give G (amount G s v hs z) v hs z s

module _ (G : Group) (t : Task G.Element) (s : State G.Element) where
  -- giver v may give to receiver i, and both are first come to in round m
  pub record Link (m v i : ℕ) : Type 0 where
    pub giver : v < t.n
    pub receiver : i < t.n
    pub allowed : t.permitted v i ≡ true
    pub from : At G t s m v
    pub onto : MetAt G t s m i

  -- a shortest route that starts at v in round m and ends at z
  abbrev pub Route : ℕ → ℕ → List Hop → ℕ → Type 0
  Route m v [] z = Link m v z
  Route m v (h ∷ hs) z = Link m v h.over × (above G (s.x h.to h.over) ≡ true) × Route (suc m) h.to hs z

-- the amounts that giving along the route writes are all held
abbrev pub held_along : (G : Group) → (G.Element → Bool) → G.Element → ℕ → List Hop → ℕ → (ℕ → ℕ → G.Element) → Bool
held_along G held d v [] z x = held (G.plus (x v z) d)
held_along G held d v (h ∷ hs) z x =
    held (G.plus (x v h.over) d) && (held (G.plus (x h.to h.over) (G.neg d)) && held_along G held d h.to hs z x)
