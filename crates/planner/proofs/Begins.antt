-- The tables and words as a run begins.
use Rattle.std.proofs.Common.{◌≡◌, ℕ, zero, suc, ◌+◌, ◌*◌, ◌<◌, ◌≤◌, Bool, true, false, cond, not, ◌&&◌, ltb, ◌⊎◌, List, [], ◌∷◌, length, get_or, take, set, replicate, sym, refl, ap, ◌∙◌, inl, inr, arith}
use mathlib.Core.Path.{fun_ext}
use Rattle.std.proofs.lemmas.List.{length-take}
use Rattle.std.proofs.lemmas.Bool.{cases_eq, cases_lt, lt-ltb, le-ltb, and_left, and_right, and_from, and_parts}
use Rattle.words.specs.Words.{bit}
use Rattle.words.proofs.Digits.{bit_zero}
use Rattle.groups.specs.Group.{Ordered}
use Rattle.groups.specs.Sums.{Le, above}
use Rattle.flow.specs.Runs.{begin}
use Rattle.amounts.specs.Kind.{Kind, Lawful}
use Rattle.planner.specs.declared.state.Words.{Words}
use Rattle.planner.specs.Answers.{posed}
use Rattle.planner.specs.Calls.{all_first, weight_fits, weights_fit, asked}
use Rattle.planner.specs.Fitted.{Fitted}
use Rattle.planner.specs.Step.{InStep}
use Rattle.planner.specs.Tables.{row, table, values, state_of}
use Rattle.planner.proofs.Entries.{row_here, row_else, row_past, row_is}

pub zeros : (m j : ℕ) → get_or {A = ℕ} (replicate m 0) j 0 ≡ 0
zeros zero j = refl
zeros (suc m) zero = refl
zeros (suc m) (suc j) = zeros m j

-- the words of a run that begins stay within n
pub begin_fitted : (n : ℕ) (ps permissions : List ℕ) → n ≤ 64 → length ps ≡ 64
    → ((j i : ℕ) → bit (get_or ps j 0) i ≡ (ltb j n && (ltb i n && bit (get_or permissions j 0) i))) → Fitted n ps 0 (replicate 64 0)
begin_fitted n ps permissions size rows rules = record {
  size = size;
  rows = rows;
  columns = refl;
  givers = λ j h. bit_zero j;
  permits = λ j i h. rules j i ∙ and_right (ltb j n) (ltb i n && bit (get_or permissions j 0) i) (and_left (ltb i n) (bit (get_or permissions j 0) i) (le-ltb i n h));
  holds = λ i j h. ap (λ v. bit v j) (zeros 64 i) ∙ bit_zero j;
}

module _ {V : Type 0} (k : Kind V) where
  -- a write to place i leaves the entries before it
  pub first_set : (i : ℕ) (vs : List V) (y : V) → all_first k.value i vs ≡ true → k.value y ≡ true → all_first k.value (suc i) (set vs i y) ≡ true
  unfolding all_first
  first_set zero [] y h g = refl
  first_set zero (v ∷ vs) y h g = and_from (k.value y) true g refl
  first_set (suc i) [] y h g = refl
  first_set (suc i) (v ∷ vs) y h g =
      let q = and_parts (k.value v) (all_first k.value i vs) h in
      and_from (k.value v) (all_first k.value (suc i) (set vs i y)) q.0 (first_set i vs y q.1 g)

  pub first_all : (vs : List V) → all_first k.value (length vs) vs ≡ true → values k vs ≡ true
  unfolding all_first values
  first_all [] h = refl
  first_all (v ∷ vs) h =
      let q = and_parts (k.value v) (all_first k.value (length vs) vs) h in
      and_from (k.value v) (values k vs) q.0 (first_all vs q.1)

  pub table_nil : (l : List V) → ((i : ℕ) → row k l i ≡ k.group.nil) → (j i : ℕ) → table k l j i ≡ k.group.nil
  unfolding table
  table_nil l h j i = go (ltb i 64)
    where
      go : (b : Bool) → cond b (row k l (64 * j + i)) k.group.nil ≡ k.group.nil
      go true = h (64 * j + i)
      go false = refl

  module _ (L : Ordered k.group) where
    none_above : above k.group k.group.nil ≡ false
    none_above = ap not (L.reflexive k.group.nil)

    module _ (xs gs rs : List V) (x64 : length xs ≡ 4096) (g64 : length gs ≡ 64) (r64 : length rs ≡ 64)
        (vx : values k xs ≡ true) (vg : values k gs ≡ true) (vr : values k rs ≡ true)
        (hx : (i : ℕ) → row k xs i ≡ k.group.nil) (hg : (i : ℕ) → row k gs i ≡ k.group.nil) (hr : (i : ℕ) → row k rs i ≡ k.group.nil) where
      pub begin_step : InStep k 0 0 (replicate 64 0) xs gs rs
      begin_step =
          record {
            transfers = x64;
            gives = g64;
            gets = r64;
            x_values = vx;
            g_values = vg;
            r_values = vr;
            giving = λ j. bit_zero j ∙ sym (ap (above k.group) (hg j) ∙ none_above);
            getting = λ i. bit_zero i ∙ sym (ap (above k.group) (hr i) ∙ none_above);
            holding = λ j i. ap (λ v. bit v j) (zeros 64 i) ∙ bit_zero j ∙ sym (ap (above k.group) (table_nil xs hx j i) ∙ none_above);
          }

  -- the weights of the members below j stand in the row, and nothing else
  abbrev pub Weighed : ℕ → List V → List V → Type 0
  Weighed j ws l = (i : ℕ) → row k l i ≡ cond (ltb i j) (row k ws i) k.group.nil

  pub weighed_more : (ws l m : List V) (j : ℕ) (x : V) → j < length l → j < length ws → x ≡ get_or ws j x → m ≡ set l j x → Weighed j ws l → Weighed (j + 1) ws m
  weighed_more ws l m j x h hw e w p i = ap (λ a. row k a i) w ∙ go (cases_eq i j)
    where
      go : (i ≡ j) ⊎ (i ≡ j → ⊥) → row k (set l j x) i ≡ cond (ltb i (j + 1)) (row k ws i) k.group.nil
      go (inl q) =
          ap (row k (set l j x)) q ∙ row_here k l j x h ∙ row_is k ws j x hw e ∙ ap (row k ws) (sym q)
          ∙ sym (ap (λ b. cond b (row k ws i) k.group.nil) (lt-ltb i (j + 1) (omega arith)))
      go (inr q) = row_else k l j x i q ∙ p i ∙ ap (λ b. cond b (row k ws i) k.group.nil) (same (cases_lt i j))
        where
          same : (i < j) ⊎ (j ≤ i) → ltb i j ≡ ltb i (j + 1)
          same (inl a) = lt-ltb i j a ∙ sym (lt-ltb i (j + 1) (omega arith))
          same (inr a) = le-ltb i j a ∙ sym (le-ltb i (j + 1) (omega arith))

  -- once every weight stands in the row
  pub weighed_all : (ws l : List V) (j : ℕ) → length ws ≤ j → Weighed j ws l → (i : ℕ) → row k l i ≡ row k ws i
  weighed_all ws l j h w i = w i ∙ go (cases_lt i j)
    where
      go : (i < j) ⊎ (j ≤ i) → cond (ltb i j) (row k ws i) k.group.nil ≡ row k ws i
      go (inl a) = ap (λ b. cond b (row k ws i) k.group.nil) (lt-ltb i j a)
      go (inr a) = ap (λ b. cond b (row k ws i) k.group.nil) (le-ltb i j a) ∙ sym (row_past k ws i (omega arith))

  -- the first n weights alone
  row_first : (ws : List V) (n i : ℕ) → i < n → row k (take n ws) i ≡ row k ws i
  unfolding row
  row_first ws zero i h = absurd (omega arith)
  row_first [] (suc n) i h = refl
  row_first (v ∷ ws) (suc n) zero h = refl
  row_first (v ∷ ws) (suc n) (suc i) h = row_first ws n i (omega arith)

  pub row_take : (ws : List V) (n i : ℕ) → row k (take n ws) i ≡ cond (ltb i n) (row k ws i) k.group.nil
  row_take ws n i = go (cases_lt i n)
    where
      go : (i < n) ⊎ (n ≤ i) → row k (take n ws) i ≡ cond (ltb i n) (row k ws i) k.group.nil
      go (inl a) = row_first ws n i a ∙ sym (ap (λ b. cond b (row k ws i) k.group.nil) (lt-ltb i n a))
      go (inr a) = row_past k (take n ws) i (omega (arith, length-take n ws)) ∙ sym (ap (λ b. cond b (row k ws i) k.group.nil) (le-ltb i n a))

  pub values_take : (ws : List V) (n : ℕ) → weights_fit k n ws ≡ true → values k (take n ws) ≡ true
  unfolding values all_first
  values_take ws zero h = refl
  values_take [] (suc n) h = refl
  values_take (v ∷ ws) (suc n) h =
      let q = and_parts (weight_fits k v) (all_first (weight_fits k) n ws) h in
      and_from (k.value v) (values k (take n ws)) (and_parts (k.value v) (k.group.le k.group.nil (k.element v)) q.0).0 (values_take ws n q.1)

  module _ (n : ℕ) (ws : List V) (permissions : List ℕ) (w : Words) (xs gs rs : List V) (en : w.n ≡ n)
      (rules : (j i : ℕ) → bit (get_or w.permitted j 0) i ≡ (ltb j n && (ltb i n && bit (get_or permissions j 0) i)))
      (hg : Weighed n ws gs) where
    pub posed_asked : posed k w (row k gs) ≡ asked k n ws permissions
    posed_asked = λ i. record { n = en i; w = fun_ext hg i; permitted = fun_ext (λ a. fun_ext (rules a)) i }

    pub begun_here : Weighed n ws rs → ((i : ℕ) → row k xs i ≡ k.group.nil) → state_of k xs gs rs ≡ begin k.group (posed k w (row k gs))
    begun_here hr hx =
        λ i. record {
          x = fun_ext {f = table k xs} {g = λ j b. k.group.nil} (λ j. fun_ext (table_nil xs hx j)) i;
          g = row k gs;
          r = fun_ext {f = row k rs} {g = row k gs} (λ j. hr j ∙ sym (hg j)) i;
        }

  -- a weight that passes is a value that is not below zero
  module _ (law : Lawful k) (n : ℕ) (ws : List V) (fit : weights_fit k n ws ≡ true) (room : n ≤ length ws) where
    rows_fit : (m : ℕ) (vs : List V) → all_first (weight_fits k) m vs ≡ true → (j : ℕ) → j < m → j < length vs
        → (k.held (row k vs j) ≡ true) × Le k.group k.group.nil (row k vs j)
    unfolding row all_first
    rows_fit zero vs h j l r = absurd (omega arith)
    rows_fit (suc m) [] h j l r = absurd (omega arith)
    rows_fit (suc m) (v ∷ vs) h zero l r =
        let q = and_parts (k.value v) (k.group.le k.group.nil (k.element v)) (and_parts (weight_fits k v) (all_first (weight_fits k) m vs) h).0 in
        (law.value_held v q.0, q.1)
    rows_fit (suc m) (v ∷ vs) h (suc j) l r = rows_fit m vs (and_parts (weight_fits k v) (all_first (weight_fits k) m vs) h).1 j (omega arith) (omega arith)

    asked_row : (j : ℕ) → j < n → cond (ltb j n) (row k ws j) k.group.nil ≡ row k ws j
    asked_row j l = ap (λ b. cond b (row k ws j) k.group.nil) (lt-ltb j n l)

    pub asked_held : (j : ℕ) → j < n → k.held (cond (ltb j n) (row k ws j) k.group.nil) ≡ true
    asked_held j l = ap k.held (asked_row j l) ∙ (rows_fit n ws fit j l (omega arith)).0

    pub asked_least : (j : ℕ) → j < n → Le k.group k.group.nil (cond (ltb j n) (row k ws j) k.group.nil)
    asked_least j l = ap (k.group.le k.group.nil) (asked_row j l) ∙ (rows_fit n ws fit j l (omega arith)).1

    pub asked_beyond : (j : ℕ) → n ≤ j → cond (ltb j n) (row k ws j) k.group.nil ≡ k.group.nil
    asked_beyond j l = ap (λ b. cond b (row k ws j) k.group.nil) (le-ltb j n l)
