-- What an amount stands for: an element of a totally ordered abelian group.
use Rattle.std.specs.Prelude.{◌≡◌, Bool, true, ◌⊎◌}

-- the elements and operations of a group, with an order that is a test
pub record Group : Type 1 where
  pub Element : Type 0
  -- addition, zero, and the negative of an element
  pub plus : Element → Element → Element
  pub nil : Element
  pub neg : Element → Element
  -- at most
  pub le : Element → Element → Bool

-- the laws of a totally ordered abelian group
pub record Ordered (G : Group) : Type 0 where
  -- addition is associative and commutative, zero changes nothing, and negatives undo
  pub assoc : (a b c : G.Element) → G.plus (G.plus a b) c ≡ G.plus a (G.plus b c)
  pub comm : (a b : G.Element) → G.plus a b ≡ G.plus b a
  pub unit : (a : G.Element) → G.plus a G.nil ≡ a
  pub inverse : (a : G.Element) → G.plus a (G.neg a) ≡ G.nil
  -- the order is reflexive, antisymmetric, transitive and total, and adding the same to both sides keeps it
  pub reflexive : (a : G.Element) → G.le a a ≡ true
  pub antisym : (a b : G.Element) → G.le a b ≡ true → G.le b a ≡ true → a ≡ b
  pub trans : (a b c : G.Element) → G.le a b ≡ true → G.le b c ≡ true → G.le a c ≡ true
  pub total : (a b : G.Element) → (G.le a b ≡ true) ⊎ (G.le b a ≡ true)
  pub shift : (a b c : G.Element) → G.le a b ≡ true → G.le (G.plus a c) (G.plus b c) ≡ true
