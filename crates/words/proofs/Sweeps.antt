-- A sweep over all numbers below a bound is a loop over the places of a word.
use Rattle.std.proofs.Common.{◌≡◌, ℕ, zero, suc, ◌<◌, ◌≤◌, Bool, true, false, cond, eqb, ◌⊎◌, sym, refl, ap, ◌∙◌, inl, inr, true≢false, arith}
use Rattle.std.proofs.lemmas.Bool.{cases_eq, cases_lt, eq-eqb, ne_eqb, cond-true, cond-false}
use Rattle.words.specs.Words.{bit, Lowest}
use Rattle.words.specs.Sweep.{sweep, Swept}
use Rattle.words.proofs.Digits.{bit_zero}

module _ {S : Type 0} (test : ℕ → S → Bool) (act : ℕ → S → S) where
  -- where no test is met, nothing changes
  pub idle : (lo hi : ℕ) (s₀ : S) → lo ≤ hi → ((k : ℕ) → lo ≤ k → k < hi → test k (sweep test act lo s₀) ≡ false) → sweep test act hi s₀ ≡ sweep test act lo s₀
  unfolding sweep
  idle lo zero s₀ h f = let e : 0 ≡ lo = omega arith in ap (λ m. sweep test act m s₀) e
  idle lo (suc hi) s₀ h f = go (cases_lt hi lo) (λ l. idle lo hi s₀ l (λ k a b. f k a (omega arith)))
    where
      go : (hi < lo) ⊎ (lo ≤ hi) → (lo ≤ hi → sweep test act hi s₀ ≡ sweep test act lo s₀)
          → cond (test hi (sweep test act hi s₀)) (act hi (sweep test act hi s₀)) (sweep test act hi s₀) ≡ sweep test act lo s₀
      go (inl a) ih = let e : suc hi ≡ lo = omega arith in ap (λ m. sweep test act m s₀) e
      go (inr a) ih =
          ap (λ p. cond (test hi p) (act hi p) p) (ih a)
          ∙ cond-false (test hi (sweep test act lo s₀)) (act hi (sweep test act lo s₀)) (sweep test act lo s₀) (f hi a (omega arith))

  pub sweep_starts : (n : ℕ) (s₀ : S) (w : ℕ) → ((k : ℕ) → n ≤ k → bit w k ≡ false) → ((k : ℕ) → k < n → bit w k ≡ test k s₀) → Swept test act n s₀ w s₀
  unfolding sweep
  sweep_starts n s₀ w h f =
      record { upto = 0; within = omega arith; made = refl; low = λ k l. absurd (omega arith); high = h; left = λ k a b. f k b }

  pub sweep_ends : (n : ℕ) (s₀ : S) (s : S) → Swept test act n s₀ 0 s → s ≡ sweep test act n s₀
  sweep_ends n s₀ s p =
      p.made ∙ sym (idle p.upto n s₀ p.within (λ k a b. ap (test k) (sym p.made) ∙ sym (p.left k a b) ∙ bit_zero k))

  -- What is known at the lowest place k of the word: the sweep acts there.
  pub record Acts (n : ℕ) (s₀ s : S) (k v : ℕ) : Type 0 where
    pub within : k < n
    pub met : test k s ≡ true
    pub done : act k s ≡ sweep test act (suc k) s₀
    -- it goes on if the tests above k are as they were
    pub onward : ((j : ℕ) → k < j → j < n → test j (act k s) ≡ test j s) → Swept test act n s₀ v (act k s)
    -- and it is over if none of them can be met
    pub over : ((j : ℕ) → k < j → j < n → test j (act k s) ≡ false) → act k s ≡ sweep test act n s₀

  pub sweep_acts : (n : ℕ) (s₀ : S) (w : ℕ) (s : S) (k v : ℕ) → Swept test act n s₀ w s → Lowest w k v → Acts n s₀ s k v
  unfolding sweep
  sweep_acts n s₀ w s k v p l = record { within = kn; met = met; done = done; onward = onward; over = over }
    where
      kn : k < n
      kn = go (cases_lt k n)
        where
          go : (k < n) ⊎ (n ≤ k) → k < n
          go (inl a) = a
          go (inr a) = absurd (true≢false (sym l.set ∙ p.high k a))

      up : p.upto ≤ k
      up = go (cases_lt k p.upto)
        where
          go : (k < p.upto) ⊎ (p.upto ≤ k) → p.upto ≤ k
          go (inl a) = absurd (true≢false (sym l.set ∙ p.low k a))
          go (inr a) = a

      met : test k s ≡ true
      met = sym (p.left k up kn) ∙ l.set

      here : s ≡ sweep test act k s₀
      here =
          p.made ∙ sym (idle p.upto k s₀ up (λ j a b. ap (test j) (sym p.made) ∙ sym (p.left j a (omega (arith, kn))) ∙ l.below j b))

      done : act k s ≡ sweep test act (suc k) s₀
      done = sym (cond-true (test k s) (act k s) s met) ∙ ap (λ q. cond (test k q) (act k q) q) here

      onward : ((j : ℕ) → k < j → j < n → test j (act k s) ≡ test j s) → Swept test act n s₀ v (act k s)
      onward stay = record {
        upto = suc k;
        within = kn;
        made = done;
        low = λ j a. low j a (cases_eq j k);
        high = λ j a. other j (λ e. omega (arith, kn)) ∙ p.high j a;
        left = λ j a b. other j (λ e. omega arith) ∙ p.left j (omega (arith, up)) b ∙ sym (stay j (omega arith) b);
      }
        where
          other : (j : ℕ) → (j ≡ k → ⊥) → bit v j ≡ bit w j
          other j ne = l.rest j ∙ cond-false (eqb j k) false (bit w j) (ne_eqb j k ne)

          low : (j : ℕ) → j < suc k → (j ≡ k) ⊎ (j ≡ k → ⊥) → bit v j ≡ false
          low j a (inl e) = l.rest j ∙ cond-true (eqb j k) false (bit w j) (eq-eqb j k e)
          low j a (inr e) = other j e ∙ l.below j (omega arith)

      over : ((j : ℕ) → k < j → j < n → test j (act k s) ≡ false) → act k s ≡ sweep test act n s₀
      over none = done ∙ sym (idle (suc k) n s₀ kn (λ j a b. ap (test j) (sym done) ∙ none j a b))
