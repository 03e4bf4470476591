-- Orders, differences and finite sums in an ordered group.
use Rattle.std.specs.Prelude.{◌≡◌, ℕ, zero, suc, Bool, true, false, cond, not}
use Rattle.groups.specs.Group.{Group}

-- a is at most b
abbrev pub Le : (G : Group) → G.Element → G.Element → Type 0
Le G a b = G.le a b ≡ true

-- a is below b: b is not at most a
abbrev pub Lt : (G : Group) → G.Element → G.Element → Type 0
Lt G a b = G.le b a ≡ false

-- the test that a is above zero
abbrev pub above : (G : Group) → G.Element → Bool
above G a = not (G.le a G.nil)

-- a less b
abbrev pub minus : (G : Group) → G.Element → G.Element → G.Element
minus G a b = G.plus a (G.neg b)

-- the lesser of two elements
abbrev pub lesser : (G : Group) → G.Element → G.Element → G.Element
lesser G a b = cond (G.le a b) a b

-- f 0 + .. + f (n - 1)
abbrev pub sum_below : (G : Group) → ℕ → (ℕ → G.Element) → G.Element
sum_below G zero f = G.nil
sum_below G (suc n) f = G.plus (sum_below G n f) (f n)

-- the element where the test holds, else zero
abbrev pub keep : (G : Group) → Bool → G.Element → G.Element
keep G b a = cond b a G.nil
