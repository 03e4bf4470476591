-- What is known of a call that is not refused.
use Rattle.std.proofs.Common.{◌≡◌, ℕ, ◌≤◌, Bool, true, false, cond, not, ◌&&◌, eqb, leb, List, length, Some, None, Option, refl, arith}
use Rattle.std.proofs.lemmas.Bool.{and_parts, eqb-true, leb-true}
use Rattle.refusals.specs.declared.Refusal.{Refusal}
use Rattle.amounts.specs.Kind.{Kind}
use Rattle.planner.specs.Calls.{words_fit, weights_fit, lengths_fit, plan_refusal}

passed : (b : Bool) (e : Refusal) (rest : Option Refusal) → cond (not b) (Some e) rest ≡ None → (b ≡ true) × (rest ≡ None)
passed true e rest h = (refl, h)
passed false e rest h = let z : ◌≡◌ {A = ℕ} 0 1 = cc in absurd (omega arith)

module _ {V : Type 0} (k : Kind V) (n : ℕ) (ws : List V) (ps : List ℕ) (xs gs rs : List V) where
  pub record Accepted : Type 0 where
    pub weights : length ws ≡ 64
    pub words : length ps ≡ 64
    pub transfers : length xs ≡ 4096
    pub gives : length gs ≡ 64
    pub gets : length rs ≡ 64
    pub some : 1 ≤ n
    pub size : n ≤ 64
    pub words_all_fit : words_fit n ps ≡ true
    pub weights_all_fit : weights_fit k n ws ≡ true

  pub accepted : plan_refusal k n ws ps xs gs rs ≡ None → Accepted
  accepted h =
      let a = passed (lengths_fit k ws ps xs gs rs) _ _ h in
      let b = passed (leb 1 n && leb n 64) _ _ a.1 in
      let c = passed (words_fit n ps) _ _ b.1 in
      let d = passed (weights_fit k n ws) _ _ c.1 in
      let l = and_parts (eqb (length ws) 64 && eqb (length ps) 64) (eqb (length xs) 4096 && (eqb (length gs) 64 && eqb (length rs) 64)) a.0 in
      let m = and_parts (eqb (length ws) 64) (eqb (length ps) 64) l.0 in
      let t = and_parts (eqb (length xs) 4096) (eqb (length gs) 64 && eqb (length rs) 64) l.1 in
      let u = and_parts (eqb (length gs) 64) (eqb (length rs) 64) t.1 in
      let s = and_parts (leb 1 n) (leb n 64) b.0 in
      record {
        weights = eqb-true (length ws) 64 m.0;
        words = eqb-true (length ps) 64 m.1;
        transfers = eqb-true (length xs) 4096 t.0;
        gives = eqb-true (length gs) 64 u.0;
        gets = eqb-true (length rs) 64 u.1;
        some = leb-true 1 n s.0;
        size = leb-true n 64 s.1;
        words_all_fit = c.0;
        weights_all_fit = d.0;
      }
