-- The queue of givers with something to give, before the first turn of a search.
use Rattle.std.proofs.Common.{◌≡◌, ℕ, zero, suc, ◌+◌, ◌<◌, ◌≤◌, Bool, true, false, cond, ◌⊎◌, List, [], ◌∷◌, ◌++◌, length, refl, ap, ◌∙◌, inl, inr, append_assoc, arith, length-append}
use Rattle.std.proofs.lemmas.Bool.{cases_lt, cond-true}
use Rattle.words.specs.Sweep.{sweep}
use Rattle.flow.specs.Counts.{count, sum_n, bit as one}
use Rattle.flow.specs.Search.{Tests, starters}
use Rattle.flow.proofs.Visits.{Each, each_push}

module _ (t : Tests) where
  pub length_starters : (m : ℕ) → length (starters t m) ≡ count m (t.starts)
  unfolding sweep sum_n
  length_starters zero = refl
  length_starters (suc m) = go (t.starts m) (length_starters m)
    where
      go : (b : Bool) → length (starters t m) ≡ count m (t.starts)
          → length (cond b (starters t m ++ (m ∷ [])) (starters t m)) ≡ count m (t.starts) + one b
      go true ih = length-append (starters t m) (m ∷ []) ∙ ap (λ x. x + 1) ih
      go false ih = omega arith

  -- starting giver j stands behind those below it
  pub starters_split : (j : ℕ) → t.starts j ≡ true → (m : ℕ) → j < m → (rest : List ℕ) × (starters t m ≡ starters t j ++ (j ∷ rest))
  unfolding sweep
  starters_split j here zero h = absurd (omega arith)
  starters_split j here (suc m) h = go (cases_lt j m) (λ l. starters_split j here m l)
    where
      more : (b : Bool) → (rest : List ℕ) × (starters t m ≡ starters t j ++ (j ∷ rest))
          → (rest : List ℕ) × (cond b (starters t m ++ (m ∷ [])) (starters t m) ≡ starters t j ++ (j ∷ rest))
      more true r = (r.0 ++ (m ∷ []), ap (λ l. l ++ (m ∷ [])) (r.1) ∙ append_assoc (starters t j) (j ∷ r.0) (m ∷ []))
      more false r = r

      go : (j < m) ⊎ (m ≤ j) → (j < m → (rest : List ℕ) × (starters t m ≡ starters t j ++ (j ∷ rest)))
          → (rest : List ℕ) × (starters t (suc m) ≡ starters t j ++ (j ∷ rest))
      go (inl l) ih = more (t.starts m) (ih l)
      go (inr l) ih =
          let e : m ≡ j = omega arith in
          ([], cond-true (t.starts m) (starters t m ++ (m ∷ [])) (starters t m) (ap (t.starts) e ∙ here) ∙ ap (λ k. starters t k ++ (k ∷ [])) e)

  -- what holds of every giver below a bound with something to give holds of the queue
  pub every_starter : (P : ℕ → Type 0) (m : ℕ) → ((k : ℕ) → k < m → t.starts k ≡ true → P k) → Each P (starters t m)
  unfolding sweep
  every_starter P zero h = tt
  every_starter P (suc m) h = go (t.starts m) refl (every_starter P m (λ k l s. h k (omega arith) s))
    where
      go : (b : Bool) → t.starts m ≡ b → Each P (starters t m) → Each P (cond b (starters t m ++ (m ∷ [])) (starters t m))
      go true e ih = each_push P (starters t m) m ih (h m (omega arith) e)
      go false e ih = ih
