-- A loop over a word's places writes the text of its members.
use Rattle.std.proofs.Common.{◌≡◌, ℕ, ◌+◌, ◌^◌, ◌<◌, true, List, [], ◌∷◌, refl, subst}
use Rattle.std.proofs.Output.{has_written_append, has_written_of_eq, writes_in_calls_nil}
use Rattle.std.specs.Fmt.{IsPlainFormatter, HasWritten, decimal}
use Rattle.std.specs.declared.fmt.Formatter.{Formatter}
use Rattle.words.specs.declared.places.Places.{Places}
use Rattle.words.specs.Words.{bit, Lowest}
use Rattle.words.specs.Sweep.{Swept}
use Rattle.words.proofs.Digits.{bit_high}
use Rattle.words.proofs.Sweeps.{sweep_starts, sweep_acts, sweep_ends}
use Rattle.samples.specs.Texts.{with_member, text_of}

module _ {W : Type 0} (took : W → List ℕ → W → Type 0) where
  -- what was written from f to g is the text of the members of w who are no longer in v
  pub record Tells (w v : ℕ) (f g : Formatter W) : Type 0 where
    pub told : IsPlainFormatter f → (text : List ℕ) × Swept (λ k _. bit w k) with_member 64 [] v text × HasWritten took f text g

  pub tells_none : (w : ℕ) (places : Places) (f : Formatter W) → places ≡ record { 0 = w } → w < 2 ^ 64 → Tells w places.0 f f
  tells_none w places f e l = rw e (record {
    told = λ plain. (
      [],
      sweep_starts (λ k _. bit w k) with_member 64 [] w (λ k h. bit_high 64 w k l h) (λ k h. refl),
      record { wrote = writes_in_calls_nil took f.writer; plain = plain },
    );
  })

  pub tells_more : (w v u k : ℕ) (f g h : Formatter W) → Tells w v f g → Lowest v k u
      → (IsPlainFormatter g → true ≡ true → HasWritten took g (32 ∷ decimal (k + 1)) h) → Tells w u f h
  tells_more w v u k f g h t l more = record { told = told }
    where
      told : IsPlainFormatter f → (text : List ℕ) × Swept (λ j _. bit w j) with_member 64 [] u text × HasWritten took f text h
      told plain =
          let (text, swept, wrote) = t.told plain in (
            with_member k text,
            (sweep_acts (λ j _. bit w j) with_member 64 [] v text k u swept l).onward (λ j a b. refl),
            has_written_append took f text g (32 ∷ decimal (k + 1)) h wrote (more wrote.plain refl),
          )

  pub tells_all : (w v : ℕ) (f g : Formatter W) → v ≡ 0 → Tells w v f g → IsPlainFormatter f → HasWritten took f (text_of w) g
  tells_all w v f g e t plain =
      let (text, swept, wrote) = t.told plain in
      has_written_of_eq took f text (text_of w) g
      (sweep_ends (λ k _. bit w k) with_member 64 [] text (subst (λ u. Swept (λ k _. bit w k) with_member 64 [] u text) e swept))
      wrote
