-- The order of the pick, in the words of document 02, CR 1, and refusal 2.
use Rattle.std.proofs.Common.{if◌then◌else◌}
use Prim.Native.Nat.{ℕ, zero, suc, ◌+◌, ◌-◌, ◌/◌, ◌%◌, ◌^◌, ◌≤◌, ◌<◌, zero-le}
use mathlib.Core.Path.{◌≡◌, refl, sym, ap, subst, ◌∙◌}
use mathlib.Core.Logic.{◌⊎◌, inl, inr, ◌↔◌, ⊎_elim}
use mathlib.Core.Bool.{Bool, true, false}
use mathlib.Core.List.{map}
use native.Mathlib.Nat.{eq-or-lt_of_le, eq-zero-or-pos}
use native.Mathlib.Decide.{dec_lt}
use native.Mathlib.Omega.{arith}
use lib.Count.{count_trailing_zeros}
use Rattle.rules.specs.Lists.{any, from_on}
use Rattle.rules.specs.Numbers.{nobody, devices, line_devices, terminals, pending_bits}
use Rattle.rules.specs.Pick.{pending, lines, transmitter, receiver, transmitters, receivers, pick_order, no_pick, first_pending, pick}
use Rattle.rules.proofs.Bits.{no_bit, trailing_lowest, lowest_lt, high_bit, taken, or_else, first_of_three, spare, ordered, pick_zero}
use Rattle.rules.proofs.Bits.{pick_high}
use Rattle.laws.specs.Words.{Picked}
use Rattle.laws.specs.Pick.{Foremost, on_a_line, transmits, receives, Takes, Unservable}
use Rattle.laws.proofs.Tests.{clash}

-- ---- the first that is pending

-- f of the numbers from a on: one of them is pending and those before it are not, and p is the answer that takes it
record FirstOf (w : ℕ) (f : ℕ → ℕ) (a n : ℕ) (p : Picked) : Type 0 where
  place : ℕ
  low : a ≤ place
  high : place < a + n
  takes : p ≡ taken (f place)
  set : pending w (f place) ≡ true
  clear : (m : ℕ) → a ≤ m → m < place → pending w (f m) ≡ false

-- none of them is pending
abbrev NoneOf : ℕ → (ℕ → ℕ) → ℕ → ℕ → Type 0
NoneOf w f a n = (m : ℕ) → a ≤ m → m < a + n → pending w (f m) ≡ false

abbrev FirstOr : ℕ → (ℕ → ℕ) → ℕ → ℕ → Picked → Type 0
FirstOr w f a n p = FirstOf w f a n p ⊎ ((p ≡ no_pick) × NoneOf w f a n)

first_of : (w : ℕ) (f : ℕ → ℕ) (a n : ℕ) → FirstOr w f a n (first_pending w (map f (from_on a n)))
unfolding first_pending from_on
first_of w f a zero = inr (refl, λ m l h. absurd (omega arith))
first_of w f a (suc n) = go (pending w (f a)) refl (first_of w f (suc a) n)
  where
    more : (P : ℕ → Type 0) → P a → ((m : ℕ) → suc a ≤ m → P m) → (m : ℕ) → a ≤ m → P m
    more P here later m l = ⊎_elim (λ (e : a ≡ m). subst P e here) (λ g. later m g) (eq-or-lt_of_le l)

    go : {p : Picked} (b : Bool) → pending w (f a) ≡ b → FirstOr w f (suc a) n p → FirstOr w f a (suc n) (if b then taken (f a) else p)
    go true t later =
        inl (record { place = a; low = omega arith; high = omega arith; takes = refl; set = t; clear = λ m l h. absurd (omega arith) })
    go false t (inl F) =
        inl (record {
          place = F.place;
          low = omega (arith, F.low);
          high = omega (arith, F.high);
          takes = F.takes;
          set = F.set;
          clear = more (λ (m : ℕ). m < F.place → pending w (f m) ≡ false) (λ _. t) F.clear;
        })
    go false t (inr N) = inr (N.0, more (λ (m : ℕ). m < a + suc n → pending w (f m) ≡ false) (λ _. t) (λ m l h. N.1 m l (omega arith)))

-- ---- the order of the pick

-- none of 0 to 47 is pending
abbrev pub NoDevice : ℕ → Type 0
NoDevice w = (d : ℕ) → d < devices → pending w d ≡ false

-- A number below 48 is one of 0 to 31, a transmitter or a receiver.
no_device : (w : ℕ) → NoneOf w (λ d. d) 0 line_devices → NoneOf w transmitter 0 terminals → NoneOf w receiver 0 terminals → NoDevice w
no_device w f g h d l = by_class (dec_lt d line_devices) (eq-zero-or-pos ((d - line_devices) % 2))
  where
    t : ℕ
    t = (d - line_devices) / 2

    by_class : Dec (d < line_devices) → ((d - line_devices) % 2 ≡ zero) ⊎ (zero < (d - line_devices) % 2) → pending w d ≡ false
    by_class (yes k) e = f d zero-le k
    by_class (no k) (inl e) = subst (λ (x : ℕ). pending w x ≡ false) (omega arith) (g t zero-le (omega arith))
    by_class (no k) (inr e) = subst (λ (x : ℕ). pending w x ≡ false) (omega arith) (h t zero-le (omega arith))

-- The first pending device of the order is the foremost, and where there is none no device is pending.
pub by_order : (w : ℕ) → Takes w (first_pending w pick_order) ⊎ ((first_pending w pick_order ≡ no_pick) × NoDevice w)
unfolding from_on
by_order w =
    subst Answer (sym (first_of_three w lines transmitters receivers))
    (go (first_of w (λ d. d) 0 line_devices) (first_of w transmitter 0 terminals) (first_of w receiver 0 terminals))
  where
    Answer : Picked → Type 0
    Answer p = Takes w p ⊎ ((p ≡ no_pick) × NoDevice w)

    go : {p q r : Picked} → FirstOr w (λ d. d) 0 line_devices p → FirstOr w transmitter 0 terminals q → FirstOr w receiver 0 terminals r
        → Answer (or_else p (or_else q r))
    go (inl F) q r = inl (F.place, rw F.takes, omega (arith, F.high), F.set, on_a_line F.high (λ m l. F.clear m zero-le l))
    go (inr N) (inl F) r =
        inl (
          transmitter F.place,
          rw (N.0, F.takes),
          omega (arith, F.high),
          F.set,
          transmits F.place F.high refl (λ m. N.1 m zero-le) (λ s. F.clear s zero-le),
        )
    go (inr N) (inr O) (inl F) =
        inl (
          receiver F.place,
          rw (N.0, O.0, F.takes),
          omega (arith, F.high),
          F.set,
          receives F.place F.high refl (λ m. N.1 m zero-le) (λ s. O.1 s zero-le) (λ s. F.clear s zero-le),
        )
    go (inr N) (inr O) (inr P) = inr (rw (N.0, O.0, P.0), no_device w N.1 O.1 P.1)

-- ---- the pick

-- With a device pending and none over 47, the foremost is taken.
pub pick_takes : (w : ℕ) → zero < w → w < 2 ^ devices → Takes w (pick w)
pick_takes w p h =
    let L = trailing_lowest pending_bits w p (omega arith) in
    ⊎_elim (λ T. (T.0, ordered w h ∙ T.1, T.2, T.3, T.4))
    (λ N. absurd (clash L.set (N.1 (count_trailing_zeros pending_bits w) (lowest_lt devices w _ h L))))
    (by_order w)

decided : (w : ℕ) → w < 2 ^ pending_bits → (Unservable w × (pick w ≡ no_pick)) ⊎ ((Unservable w → ⊥) × ((pick w).refusal ≡ 0))
decided w h = go (eq-zero-or-pos w) (dec_lt w (2 ^ devices))
  where
    go : (w ≡ zero) ⊎ (zero < w) → Dec (w < 2 ^ devices) → (Unservable w × (pick w ≡ no_pick))
        ⊎ ((Unservable w → ⊥) × ((pick w).refusal ≡ 0))
    go (inl e) d = inl (inl (λ n. no_bit 0 w n (omega arith) zero-le), ap pick e ∙ pick_zero)
    go (inr p) (no f) =
        let l : 2 ^ devices ≤ w = omega arith in
        let b = high_bit spare devices w l h in
        inl (inr (b.0, b.1, b.3), pick_high w l h)
    go (inr p) (yes l) =
        let L = trailing_lowest pending_bits w p h in
        inr (
          ⊎_elim (λ f. clash L.set (f _)) (λ b. clash b.2 (no_bit devices w b.0 l b.1)),
          ap (λ (r : Picked). r.refusal) (pick_takes w p l).1,
        )

-- A device that is picked is pending, is one of 0 to 47, and is the foremost of those that are pending.
pub pick_foremost : (w : ℕ) → (pick w).refusal ≡ 0 → (pending w (pick w).device ≡ true) × ((pick w).device < devices)
    × Foremost w (pick w).device
unfolding pick
pick_foremost w = go (any (pending w) (from_on devices spare)) (by_order w)
  where
    Right : Picked → Type 0
    Right p = p.refusal ≡ 0 → (pending w p.device ≡ true) × (p.device < devices) × Foremost w p.device

    go : {p : Picked} (b : Bool) → Takes w p ⊎ ((p ≡ no_pick) × NoDevice w) → Right (if b then no_pick else p)
    go true answer = λ e. absurd (omega arith)
    go false (inl T) = subst Right (sym T.1) (λ e. (T.3, T.2, T.4))
    go false (inr N) = subst Right (sym N.0) (λ e. absurd (omega arith))

-- A word of 64 bits is refused with 2 exactly if no device is pending or one over 47 is, and then the device is 255.
pub pick_refused : (w : ℕ) → w < 2 ^ pending_bits → (((pick w).refusal ≡ 2) ↔ Unservable w) × ((pick w).refusal ≡ 2 → (pick w).device ≡ nobody)
pick_refused w h =
    ⊎_elim (λ y. ((λ e. y.0, λ x. ap (λ (r : Picked). r.refusal) y.1), λ e. ap (λ (r : Picked). r.device) y.1))
    (λ y. ((λ e. absurd (omega arith), λ x. absurd (y.0 x)), λ e. absurd (omega arith)))
    (decided w h)
