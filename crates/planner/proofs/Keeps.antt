-- A write to a table and to its word keeps the two in step.
use Rattle.std.proofs.Common.{◌≡◌, ℕ, ◌+◌, ◌*◌, ◌<◌, Bool, true, cond, eqb, ◌⊎◌, List, length, get_or, set, sym, ap, ◌∙◌, subst, inl, inr, arith}
use Rattle.std.proofs.lemmas.List.{get_or-set_same, get_or-set_other, length-set}
use Rattle.std.proofs.lemmas.Bool.{cases_eq, eq-eqb, ne_eqb, cond-true, cond-false}
use Rattle.words.specs.Words.{bit}
use Rattle.groups.specs.Sums.{above}
use Rattle.amounts.specs.Kind.{Kind}
use Rattle.planner.specs.declared.state.Words.{Words}
use Rattle.planner.specs.Step.{InStep}
use Rattle.planner.specs.Tables.{row, table}
use Rattle.planner.proofs.Entries.{row_here, row_else, table_here, table_else, values_set}

-- what `words::put` gives
abbrev Put : ℕ → ℕ → Bool → ℕ → Type 0
Put w k on v = (j : ℕ) → bit v j ≡ cond (eqb j k) on (bit w j)

put_here : (w k : ℕ) (on : Bool) (v : ℕ) → Put w k on v → (j : ℕ) → j ≡ k → bit v j ≡ on
put_here w k on v h j e = h j ∙ cond-true (eqb j k) on (bit w j) (eq-eqb j k e)

put_else : (w k : ℕ) (on : Bool) (v : ℕ) → Put w k on v → (j : ℕ) → (j ≡ k → ⊥) → bit v j ≡ bit w j
put_else w k on v h j e = h j ∙ cond-false (eqb j k) on (bit w j) (ne_eqb j k e)

module _ {V : Type 0} (k : Kind V) where
  module _ (w : Words) (xs gs rs : List V) (s : InStep k w.givers w.takers w.holders xs gs rs) (y : V) (v : ℕ) (good : k.value y ≡ true) where
    row_keeps : (l : List V) (m j : ℕ) → j < length l → ((a : ℕ) → bit m a ≡ above k.group (row k l a)) → Put m j (above k.group (k.element y)) v
        → (a : ℕ) → bit v a ≡ above k.group (row k (set l j y) a)
    row_keeps l m j h f p a = go (cases_eq a j)
      where
        go : (a ≡ j) ⊎ (a ≡ j → ⊥) → bit v a ≡ above k.group (row k (set l j y) a)
        go (inl e) =
            put_here m j (above k.group (k.element y)) v p a e ∙ ap (above k.group) (sym (row_here k l j y h)) ∙ ap (λ b. above k.group (row k (set l j y) b)) (sym e)
        go (inr e) = put_else m j (above k.group (k.element y)) v p a e ∙ f a ∙ ap (above k.group) (sym (row_else k l j y a e))

    give_keeps : (j : ℕ) → j < w.n → Put w.givers j (above k.group (k.element y)) v → InStep k v w.takers w.holders xs (set gs j y) rs
    give_keeps j l p = record {
      transfers = s.transfers;
      gives = length-set gs j y ∙ s.gives;
      gets = s.gets;
      x_values = s.x_values;
      g_values = values_set k gs j y good s.g_values;
      r_values = s.r_values;
      giving = row_keeps gs w.givers j (omega (arith, s.gives, w.fitted.size)) s.giving p;
      getting = s.getting;
      holding = s.holding;
    }

    get_keeps : (i : ℕ) → i < w.n → Put w.takers i (above k.group (k.element y)) v → InStep k w.givers v w.holders xs gs (set rs i y)
    get_keeps i l p = record {
      transfers = s.transfers;
      gives = s.gives;
      gets = length-set rs i y ∙ s.gets;
      x_values = s.x_values;
      g_values = s.g_values;
      r_values = values_set k rs i y good s.r_values;
      giving = s.giving;
      getting = row_keeps rs w.takers i (omega (arith, s.gets, w.fitted.size)) s.getting p;
      holding = s.holding;
    }

    module _ (j i : ℕ) (lj : j < w.n) (li : i < w.n) (p : Put (get_or w.holders i 0) j (above k.group (k.element y)) v) where
      here : get_or (set w.holders i v) i 0 ≡ v
      here = get_or-set_same w.holders i v 0 (omega (arith, w.fitted.columns, w.fitted.size))

      put_keeps : InStep k w.givers w.takers (set w.holders i v) (set xs (64 * j + i) y) gs rs
      put_keeps = record {
        transfers = length-set xs (64 * j + i) y ∙ s.transfers;
        gives = s.gives;
        gets = s.gets;
        x_values = values_set k xs (64 * j + i) y good s.x_values;
        g_values = s.g_values;
        r_values = s.r_values;
        giving = s.giving;
        getting = s.getting;
        holding = λ a b. holds a b (cases_eq b i) (cases_eq a j);
      }
        where
          i64 : i < 64
          i64 = omega (arith, li, w.fitted.size)

          holds : (a b : ℕ) → (b ≡ i) ⊎ (b ≡ i → ⊥) → (a ≡ j) ⊎ (a ≡ j → ⊥)
              → bit (get_or (set w.holders i v) b 0) a ≡ above k.group (table k (set xs (64 * j + i) y) a b)
          holds a b (inr e) q =
              ap (λ m. bit m a) (get_or-set_other w.holders i b v 0 e) ∙ s.holding a b
              ∙ ap (above k.group) (sym (table_else k xs j i y a b i64 (λ t. e t.1)))
          holds a b (inl e) (inr q) =
              ap (λ c. bit (get_or (set w.holders i v) c 0) a) e ∙ ap (λ m. bit m a) here
              ∙ put_else (get_or w.holders i 0) j (above k.group (k.element y)) v p a q ∙ s.holding a i
              ∙ ap (λ c. above k.group (table k xs a c)) (sym e)
              ∙ ap (above k.group) (sym (table_else k xs j i y a b i64 (λ t. q t.0)))
          holds a b (inl e) (inl q) =
              ap (λ c. bit (get_or (set w.holders i v) c 0) a) e ∙ ap (λ m. bit m a) here
              ∙ put_here (get_or w.holders i 0) j (above k.group (k.element y)) v p a q
              ∙ ap (above k.group) (sym (table_here k xs j i y s.transfers (omega (arith, lj, w.fitted.size)) i64))
              ∙ ap (λ c. above k.group (table k (set xs (64 * j + i) y) c i)) (sym q)
              ∙ ap (λ c. above k.group (table k (set xs (64 * j + i) y) a c)) (sym e)

    -- what a write leaves is in step again
    pub transfer_kept : (j i : ℕ) (xs' : List V) → xs' ≡ set xs (64 * j + i) y → j < w.n → i < w.n → Put (get_or w.holders i 0) j (above k.group (k.element y)) v
        → InStep k w.givers w.takers (set w.holders i v) xs' gs rs
    transfer_kept j i xs' e lj li p = subst (λ l. InStep k w.givers w.takers (set w.holders i v) l gs rs) (sym e) (put_keeps j i lj li p)

    pub give_kept : (j : ℕ) (gs' : List V) → gs' ≡ set gs j y → j < w.n → Put w.givers j (above k.group (k.element y)) v
        → InStep k v w.takers w.holders xs gs' rs
    give_kept j gs' e l p = subst (λ a. InStep k v w.takers w.holders xs a rs) (sym e) (give_keeps j l p)

    pub get_kept : (i : ℕ) (rs' : List V) → rs' ≡ set rs i y → i < w.n → Put w.takers i (above k.group (k.element y)) v
        → InStep k w.givers v w.holders xs gs rs'
    get_kept i rs' e l p = subst (λ a. InStep k w.givers v w.holders xs gs a) (sym e) (get_keeps i l p)
