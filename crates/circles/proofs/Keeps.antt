-- Each call that is not refused keeps what holds of every circle.
use Rattle.std.proofs.Common.{◌≡◌, ℕ, ◌+◌, ◌<◌, ◌≤◌, Bool, true, false, ◌≢◌, List, length, get_or, set, replicate, None, sum_by, sym, refl, ap, ◌∙◌, subst, ⊎_elim, arith}
use Rattle.std.proofs.lemmas.List.{length-replicate, length-set, get_or-set_same, get_or-set_other, get_or_past, get_or-replicate}
use Rattle.std.proofs.lemmas.List.Sums.{sum_by-set}
use Rattle.std.proofs.lemmas.Bool.{cases_eq, cases_lt, false≢true, true≢false}
use Rattle.std.proofs.lemmas.Bool.Decides.{nat_tests}
use Rattle.tables.specs.declared.row.Rates.{Rates}
use Rattle.amounts.specs.declared.money.Money.{Money}
use Rattle.circles.specs.declared.member.Member.{Member}
use Rattle.circles.specs.declared.members.Members.{Members}
use Rattle.circles.specs.declared.state.State.{State}
use Rattle.circles.specs.Members.{blank, nobody, member_at, newcomer, joined, with_bar, bar_put}
use Rattle.circles.specs.Calls.{nothing, opened, voided, rates_fit, admit_refusal, admitted, transfer_refusal}
use Rattle.circles.specs.Sound.{Manned, Sound}

-- one record changed
each_set : (P : ℕ → Member → Type 0) (xs : List Member) (j : ℕ) (m : Member) → j < length xs → P j m → ((k : ℕ) → k ≢ j → P k (get_or xs k blank))
    → (k : ℕ) → P k (get_or (set xs j m) k blank)
each_set P xs j m lt new old k =
    ⊎_elim (λ eq. subst (λ (i : ℕ). P i (get_or (set xs j m) i blank)) (sym eq) (subst (P j) (sym (get_or-set_same xs j m blank lt)) new))
    (λ ne. subst (P k) (sym (get_or-set_other xs j k m blank ne)) (old k ne))
    (cases_eq k j)

-- a table of equal entries, which count past its end too
alike : {V : Type 0} (n : ℕ) (v : V) (k : ℕ) → get_or (replicate n v) k v ≡ v
alike n v k = ⊎_elim (λ lt. get_or-replicate n k v v lt) (λ le. get_or_past (replicate n v) k v (omega (arith, le, length-replicate n v))) (cases_lt k n)

-- a circle without a plan: there is nothing to show of plans
pub void_sound : (s : State) (ms : Members) (total : ℕ) → Manned ms → total ≡ sum_by (λ m. m.balance) ms.list → Sound (voided s ms total)
void_sound s ms total manned stakes =
    record {
      manned = manned;
      stakes = stakes;
      shaped = refl;
      void = λ p _. ap (λ (m : Money). m.0) (alike 4096 nothing p);
      forfeits = λ j q. absurd (false≢true q);
      gains = λ i q. absurd (false≢true q);
      permitted = λ j i q. absurd (false≢true q);
    }

open_sound : (number : ℕ) → Sound (opened number)
open_sound number =
    let b : (P : Member → Type 0) → P blank → (k : ℕ) → P (get_or (replicate 64 blank) k blank) = λ P p k. subst P (sym (alike 64 blank k)) p in
    void_sound (opened number) nobody 0
    record {
      size = refl;
      room = omega arith;
      most = omega arith;
      rated = λ k q. absurd (let z : ⊥ = omega arith in z);
      settled = b (λ m. m.alive ≡ false → m.balance ≡ 0) (λ _. refl);
      bounded = λ k _. ap (λ (m : Member). m.alive) (alike 64 blank k);
    }
    refl

pub open_kept : {s : State} {n : ℕ} → s ≡ opened n → Sound s
open_kept {s} {n} e = subst Sound (sym e) (open_sound n)

-- what an admission that is not refused may count on
record Admits (total count stake : ℕ) (rates : Rates) : Type 0 where
  rated : rates_fit rates ≡ true
  fits : total + stake ≤ 1000000000000
  room : count < 64

admits : (total count stake : ℕ) (rates : Rates) → admit_refusal total count stake rates ≡ None → Admits total count stake rates
admits total count stake rates e = record { rated = grind (arith, nat_tests); fits = grind (arith, nat_tests); room = grind (arith, nat_tests) }

pub admit_sound : (s : State) (stake : ℕ) (rates : Rates) → Sound s → admit_refusal s.total s.members.count stake rates ≡ None → Sound (admitted s stake rates)
admit_sound s stake rates sound e =
    let h = sound.manned in
    let a = admits s.total s.members.count stake rates e in
    let m = newcomer stake rates in
    let n = s.members.count in
    let xs = s.members.list in
    let lt : n < length xs = omega (arith, a.room, h.size) in
    let none : (get_or xs n blank).balance ≡ 0 = h.settled n (h.bounded n (omega arith)) in
    let sum : s.total + stake ≡ sum_by (λ (x : Member). x.balance) (set xs n m) =
    omega (arith, sound.stakes, none, sum_by-set (λ (x : Member). x.balance) xs n m blank lt) in
    void_sound s (joined s.members m) (s.total + stake)
    record {
      size = length-set xs n m ∙ h.size;
      room = omega (arith, a.room);
      most = omega (arith, sum, a.fits);
      rated = each_set (λ k x. k < n + 1 → rates_fit x.rates ≡ true) xs n m lt (λ q. a.rated) (λ k ne q. h.rated k (omega (arith, ne)));
      settled = each_set (λ k x. x.alive ≡ false → x.balance ≡ 0) xs n m lt (λ q. absurd (true≢false q)) (λ k ne. h.settled k);
      bounded = each_set (λ k x. n + 1 ≤ k → x.alive ≡ false) xs n m lt (λ q. absurd (let z : ⊥ = omega arith in z)) (λ k ne q. h.bounded k (omega arith));
    }
    sum

pub bar_sound : (s : State) (j i : ℕ) (on : Bool) → j < 64 → Sound s → Sound (voided s (bar_put s.members j i on) s.total)
bar_sound s j i on jn sound =
    let h = sound.manned in
    let old = member_at s.members j in
    let m = with_bar old i on in
    let xs = s.members.list in
    let lt : j < length xs = omega (arith, jn, h.size) in
    let sum : s.total ≡ sum_by (λ (x : Member). x.balance) (set xs j m) = omega (arith, sound.stakes, sum_by-set (λ (x : Member). x.balance) xs j m blank lt) in
    void_sound s (bar_put s.members j i on) s.total
    record {
      size = length-set xs j m ∙ h.size;
      room = h.room;
      most = omega (arith, sum, sound.stakes, h.most);
      rated = each_set (λ k x. k < s.members.count → rates_fit x.rates ≡ true) xs j m lt (h.rated j) (λ k ne. h.rated k);
      settled = each_set (λ k x. x.alive ≡ false → x.balance ≡ 0) xs j m lt (h.settled j) (λ k ne. h.settled k);
      bounded = each_set (λ k x. s.members.count ≤ k → x.alive ≡ false) xs j m lt (h.bounded j) (λ k ne. h.bounded k);
    }
    sum

-- a transfer that is told may count on its receiver
pub receiver_within : (count giver receiver : ℕ) → transfer_refusal count giver receiver ≡ None → receiver ≤ count
receiver_within count giver receiver e = grind (arith, nat_tests)
