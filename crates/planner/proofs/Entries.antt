-- Reading a table of amounts after one entry was written.
use Rattle.std.proofs.Common.{◌≡◌, ℕ, zero, suc, ◌+◌, ◌*◌, ◌<◌, ◌≤◌, Bool, true, false, cond, ltb, ◌≢◌, List, [], ◌∷◌, length, get_or, set, sym, refl, ap, ◌∙◌, arith}
use Rattle.std.proofs.lemmas.Bool.{lt-ltb, ltb-true, cond-true, and_parts, and_from}
use Rattle.amounts.specs.Kind.{Kind}
use Rattle.planner.specs.Tables.{row, table, values}

module _ {V : Type 0} (k : Kind V) where
  pub row_here : (l : List V) (j : ℕ) (y : V) → j < length l → row k (set l j y) j ≡ k.element y
  unfolding row
  row_here [] j y h = absurd (omega arith)
  row_here (v ∷ l) zero y h = refl
  row_here (v ∷ l) (suc j) y h = row_here l j y (omega arith)

  pub row_else : (l : List V) (j : ℕ) (y : V) (a : ℕ) → (a ≡ j → ⊥) → row k (set l j y) a ≡ row k l a
  unfolding row
  row_else [] j y a h = refl
  row_else (v ∷ l) zero y zero h = absurd (h refl)
  row_else (v ∷ l) zero y (suc a) h = refl
  row_else (v ∷ l) (suc j) y zero h = refl
  row_else (v ∷ l) (suc j) y (suc a) h = row_else l j y a (λ e. h (ap suc e))

  -- an entry that was read stands for the element at its place
  pub row_read : (l : List V) (j : ℕ) (d : V) → j < length l → k.element (get_or l j d) ≡ row k l j
  unfolding row
  row_read [] j d h = absurd (omega arith)
  row_read (v ∷ l) zero d h = refl
  row_read (v ∷ l) (suc j) d h = row_read l j d (omega arith)

  pub row_is : (l : List V) (j : ℕ) (x : V) → j < length l → x ≡ get_or l j x → k.element x ≡ row k l j
  row_is l j x h r = ap k.element r ∙ row_read l j x h

  pub row_past : (l : List V) (j : ℕ) → length l ≤ j → row k l j ≡ k.group.nil
  unfolding row
  row_past [] j h = refl
  row_past (v ∷ l) zero h = absurd (omega arith)
  row_past (v ∷ l) (suc j) h = row_past l j (omega arith)

  pub table_here : (l : List V) (j i : ℕ) (y : V) → length l ≡ 4096 → j < 64 → i < 64 → table k (set l (64 * j + i) y) j i ≡ k.element y
  unfolding table
  table_here l j i y e a b =
      cond-true (ltb i 64) (row k (set l (64 * j + i) y) (64 * j + i)) k.group.nil (lt-ltb i 64 b)
      ∙ row_here l (64 * j + i) y (omega arith)

  pub table_else : (l : List V) (j i : ℕ) (y : V) (a b : ℕ) → i < 64 → ((a ≡ j) × (b ≡ i) → ⊥) → table k (set l (64 * j + i) y) a b ≡ table k l a b
  unfolding table
  table_else l j i y a b c h = go (ltb b 64) refl
    where
      go : (t : Bool) → ltb b 64 ≡ t → cond t (row k (set l (64 * j + i) y) (64 * a + b)) k.group.nil ≡ cond t (row k l (64 * a + b)) k.group.nil
      go false e = refl
      go true e = row_else l (64 * j + i) y (64 * a + b) apart
        where
          apart : 64 * a + b ≢ 64 * j + i
          apart q = h (omega (arith, ltb-true b 64 e), omega (arith, ltb-true b 64 e))

  pub table_read : (l : List V) (j i : ℕ) (d : V) → length l ≡ 4096 → j < 64 → i < 64 → k.element (get_or l (64 * j + i) d) ≡ table k l j i
  unfolding table
  table_read l j i d e a b =
      row_read l (64 * j + i) d (omega arith) ∙ sym (cond-true (ltb i 64) (row k l (64 * j + i)) k.group.nil (lt-ltb i 64 b))

  pub values_set : (l : List V) (j : ℕ) (y : V) → k.value y ≡ true → values k l ≡ true → values k (set l j y) ≡ true
  unfolding values
  values_set [] j y h p = refl
  values_set (v ∷ l) zero y h p = and_from (k.value y) (values k l) h (and_parts (k.value v) (values k l) p).1
  values_set (v ∷ l) (suc j) y h p =
      let q = and_parts (k.value v) (values k l) p in
      and_from (k.value v) (values k (set l j y)) q.0 (values_set l j y h q.1)

  pub value_read : (l : List V) (j : ℕ) (d : V) → j < length l → values k l ≡ true → k.value (get_or l j d) ≡ true
  unfolding values
  value_read [] j d h p = absurd (omega arith)
  value_read (v ∷ l) zero d h p = (and_parts (k.value v) (values k l) p).0
  value_read (v ∷ l) (suc j) d h p = value_read l j d (omega arith) (and_parts (k.value v) (values k l) p).1

  -- an entry of a table of values is held
  pub row_held : ((v : V) → k.value v ≡ true → k.held (k.element v) ≡ true) → (l : List V) (j : ℕ) → j < length l → values k l ≡ true → k.held (row k l j) ≡ true
  unfolding row values
  row_held law [] j h p = absurd (omega arith)
  row_held law (v ∷ l) zero h p = law v (and_parts (k.value v) (values k l) p).0
  row_held law (v ∷ l) (suc j) h p = row_held law l j (omega arith) (and_parts (k.value v) (values k l) p).1
