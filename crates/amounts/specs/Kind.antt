-- What a kind of amount is, and what its calls answer.
use Rattle.std.specs.Prelude.{◌≡◌, ℕ, ◌≤◌, Bool, true, false, cond, not, ◌&&◌, List, [], ◌∷◌, length, Option, MatchOption, nat_lt}
use Rattle.std.specs.declared.cmp.Ordering.TheVariants.{Less, Equal, Greater}
use Rattle.std.specs.declared.cmp.Ordering.{Ordering}
use Rattle.refusals.specs.declared.Refusal.{Refusal}
use Rattle.refusals.specs.declared.Refusal.TheVariants.{Length, NotAnAmount}
use Rattle.refusals.specs.Judged.{first_of}
use Rattle.groups.specs.Group.{Group, Ordered}
use Rattle.groups.specs.Sums.{Le, minus}

-- a kind of amount, over plain numbers V
pub record Kind (V : Type 0) : Type 1 where
  -- the group that its amounts stand in
  pub group : Group
  -- which plain numbers are values of the kind
  pub value : V → Bool
  -- the element that a value stands for
  pub element : V → group.Element
  -- which elements some value stands for
  pub held : group.Element → Bool
  -- how a value is printed, and the letter by which printed lines name the kind
  pub text : V → List ℕ
  pub letter : ℕ

-- what every kind has to show
pub record Lawful {V : Type 0} (k : Kind V) : Type 0 where
  pub ordered : Ordered k.group
  -- an element is held exactly if some value stands for it, and zero is held
  pub value_held : (v : V) → k.value v ≡ true → k.held (k.element v) ≡ true
  pub held_value : (e : k.group.Element) → k.held e ≡ true → (v : V) × (k.value v ≡ true) × (k.element v ≡ e)
  pub nil_held : k.held k.group.nil ≡ true
  -- a text has 1 to 40 bytes
  pub text_some : (v : V) → k.value v ≡ true → 1 ≤ length (k.text v)
  pub text_most : (v : V) → k.value v ≡ true → length (k.text v) ≤ 40

-- every element between zero and a held element is held, whichever of the two is the greater
pub record ClosedBelow {V : Type 0} (k : Kind V) : Type 0 where
  pub upward : (e top : k.group.Element) → k.held top ≡ true → Le k.group k.group.nil e → Le k.group e top
      → k.held e ≡ true
  pub downward : (e bottom : k.group.Element) → k.held bottom ≡ true → Le k.group bottom e
      → Le k.group e k.group.nil → k.held e ≡ true

-- an element between zero and a held element that is not held: the kind is not closed below
pub record Gap {V : Type 0} (k : Kind V) (e top : k.group.Element) : Type 0 where
  pub from_zero : Le k.group k.group.nil e
  pub to_top : Le k.group e top
  pub top_held : k.held top ≡ true
  pub not_held : k.held e ≡ false

-- below, equal or above by the group's order
abbrev pub order : (G : Group) → G.Element → G.Element → Ordering
order G a b = cond (G.le a b) (cond (G.le b a) Equal Less) Greater

module _ {V : Type 0} (k : Kind V) where
  -- a value of the kind that stands for the element
  abbrev pub StandsFor : V → k.group.Element → Type 0
  StandsFor v e = (k.value v ≡ true) × (k.element v ≡ e)

  -- the comparison of two numbers: equal where one is no value
  abbrev pub compared : V → V → Ordering
  compared a b = cond (k.value a && k.value b) (order k.group (k.element a) (k.element b)) Equal

  -- both numbers are values, and the element is held
  abbrev pub sound : V → V → k.group.Element → Bool
  sound a b e = (k.value a && k.value b) && k.held e

  -- nothing unless the test holds, and then a value that stands for the element
  abbrev pub Stands : Bool → k.group.Element → Option V → Type 0
  Stands test e r = MatchOption r (test ≡ false) (λ v. (test ≡ true) × StandsFor v e)

  -- a number that stands for the element, and is a value exactly if the element is held; or nothing, of one that is not held
  abbrev pub Reaches : k.group.Element → Option V → Type 0
  Reaches e r = MatchOption r (k.held e ≡ false) (λ v. (k.element v ≡ e) × (k.value v ≡ k.held e))

  -- the answer of a sum
  abbrev pub Sum : V → V → Option V → Type 0
  Sum a b r = Stands (sound a b (k.group.plus (k.element a) (k.element b))) (k.group.plus (k.element a) (k.element b)) r

  -- the answer of a difference
  abbrev pub Difference : V → V → Option V → Type 0
  Difference a b r = Stands (sound a b (minus k.group (k.element a) (k.element b))) (minus k.group (k.element a) (k.element b)) r

  -- why a text is not written: the buffer is under 40 bytes, or the number is no value
  abbrev pub text_refusal : V → List ℕ → Option Refusal
  text_refusal v buffer = first_of ((nat_lt (length buffer) 40, Length) ∷ (not (k.value v), NotAnAmount) ∷ [])
