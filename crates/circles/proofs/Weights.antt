-- Weights of the members in a table: they fit, and they are what the members pose.
use Rattle.std.proofs.Common.{◌≡◌, ℕ, zero, suc, ◌<◌, ◌≤◌, Bool, true, cond, ltb, ◌⊎◌, List, [], ◌∷◌, length, get_or, sum_by, sym, refl, ap, ◌∙◌, subst, inl, inr, arith}
use mathlib.Core.Path.{fun_ext}
use Rattle.std.proofs.lemmas.List.{get_or_past}
use Rattle.std.proofs.lemmas.List.Sums.{get_or-le-sum_by}
use Rattle.std.proofs.lemmas.Bool.{cases_lt, lt-ltb, le-ltb, and_from, cond-true, cond-false}
use Rattle.amounts.specs.Kind.{Kind}
use Rattle.planner.specs.Calls.{all_first, weight_fits, weights_fit}
use Rattle.planner.specs.Tables.{row}
use Rattle.planner.proofs.Entries.{row_is}
use Rattle.circles.specs.declared.member.Member.{Member}
use Rattle.circles.specs.declared.members.Members.{Members}
use Rattle.circles.specs.Members.{blank, member_at}
use Rattle.circles.specs.Sound.{Manned}
use Rattle.circles.specs.Weighing.{Weighable, Weighing}

-- no member has more than all of them together
balance_within : (xs : List Member) (k : ℕ) → sum_by (λ (m : Member). m.balance) xs ≤ 1000000000000 → (get_or xs k blank).balance ≤ 1000000000000
balance_within xs k most = go (cases_lt k (length xs))
  where
    go : (k < length xs) ⊎ (length xs ≤ k) → (get_or xs k blank).balance ≤ 1000000000000
    go (inl l) = omega (arith, most, get_or-le-sum_by (λ (m : Member). m.balance) xs k blank l)
    go (inr l) = subst (λ (m : Member). m.balance ≤ 1000000000000) (sym (get_or_past xs k blank l)) (omega arith)

-- so each can be weighed
pub weighable : (ms : Members) (k : ℕ) → Manned ms → k < ms.count → Weighable (member_at ms k)
weighable ms k h l = record { most = balance_within ms.list k h.most; rated = h.rated k l }

-- a table whose first n entries pass
first_all : {V : Type 0} (p : V → Bool) (vs : List V) (n : ℕ) → n ≤ length vs → ((j : ℕ) (d : V) → j < n → p (get_or vs j d) ≡ true) → all_first p n vs ≡ true
unfolding all_first
first_all p vs zero l h = refl
first_all p [] (suc n) l h = refl
first_all p (v ∷ vs) (suc n) l h = and_from (p v) (all_first p n vs) (h 0 v (omega arith)) (first_all p vs n (omega arith) (λ j d q. h (suc j) d (omega arith)))

module _ {V : Type 0} (k : Kind V) (weight : Member → V) (weighing : Weighing k weight) (ms : Members) (h : Manned ms) (ws : List V) (size : length ws ≡ 64)
    (are : (j : ℕ) (d : V) → j < ms.count → get_or ws j d ≡ weight (member_at ms j)) where
  -- the weights of the members are taken by the planner
  pub weights_all_fit : weights_fit k ms.count ws ≡ true
  weights_all_fit =
      first_all (weight_fits k) ws ms.count (omega (arith, h.room))
      (λ j d l. ap (weight_fits k) (are j d l) ∙ weighing.fits (member_at ms j) (weighable ms j h l))

  -- and nobody beyond them weighs anything
  pub weights_are : ◌≡◌ {A = ℕ → k.group.Element} (λ j. cond (ltb j ms.count) (row k ws j) k.group.nil) (λ j. k.element (weight (member_at ms j)))
  weights_are = fun_ext (λ j. go j (cases_lt j ms.count))
    where
      go : (j : ℕ) → (j < ms.count) ⊎ (ms.count ≤ j) → cond (ltb j ms.count) (row k ws j) k.group.nil ≡ k.element (weight (member_at ms j))
      go j (inl l) =
          let w = weight (member_at ms j) in
          cond-true (ltb j ms.count) (row k ws j) k.group.nil (lt-ltb j ms.count l) ∙ sym (row_is k ws j w (omega (arith, h.room)) (sym (are j w l)))
      go j (inr l) =
          cond-false (ltb j ms.count) (row k ws j) k.group.nil (le-ltb j ms.count l) ∙ sym (weighing.none (member_at ms j) (h.settled j (h.bounded j l)))
