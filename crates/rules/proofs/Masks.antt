-- The pick by masks: the word of each class is cut out of the pending word, and its trailing zeros are the device.
-- Stated for any masks of the classes; those of src/pick.rt are shown to be such where it is proved, by computing.
use Rattle.std.proofs.Common.{if◌then◌else◌, ◌==◌}
use Prim.Native.Nat.{ℕ, zero, suc, ◌+◌, ◌*◌, ◌%◌, ◌/◌, ◌^◌, ◌<◌, zero-le, min}
use mathlib.Core.Path.{◌≡◌, refl, sym, ap, ◌∙◌}
use mathlib.Core.Logic.{⊎_elim}
use mathlib.Core.Bool.{Bool, true, false, not, ◌&&◌, ◌||◌}
use mathlib.Core.List.{List, [], ◌∷◌}
use native.Mathlib.Nat.{eq-zero-or-pos, lt_of_le_of_lt}
use native.Mathlib.Omega.{arith}
use lib.Bits.{bit_and, and_shr, and_step, and_le_l}
use lib.Count.{count_trailing_zeros}
use borrow.Author.Tests.{eq-eqb, ne_eqb}
use Rattle.rules.specs.Lists.{any, keep, from_on}
use Rattle.rules.specs.Numbers.{devices, pending_bits}
use Rattle.rules.specs.Words.{Picked}
use Rattle.rules.specs.Pick.{pending, lines, transmitters, receivers, no_pick, first_pending, pick}
use Rattle.rules.proofs.Bits.{clash, no_bit, Lowest, trailing_lowest, lowest_lt, any_at, taken, or_else, first_of_three}
use Rattle.rules.proofs.Bits.{first_trailing, first_zero, ordered}

-- the lowest digit of what `&` gives
digit : (x a b : ℕ) → a < 2 → b < 2 → ((x * 2 + min a b) % 2 == 1) ≡ ((b == 1) && (a == 1))
digit x zero zero h k = ne_eqb ((x * 2 + 0) % 2) 1 (λ e. omega (arith, e))
digit x zero (suc zero) h k = ne_eqb ((x * 2 + 0) % 2) 1 (λ e. omega (arith, e))
digit x zero (suc (suc b)) h k = absurd (omega arith)
digit x (suc zero) zero h k = ne_eqb ((x * 2 + 0) % 2) 1 (λ e. omega (arith, e))
digit x (suc zero) (suc zero) h k = eq-eqb ((x * 2 + 1) % 2) 1 (omega arith)
digit x (suc zero) (suc (suc b)) h k = absurd (omega arith)
digit x (suc (suc a)) b h k = absurd (omega arith)

-- A bit is set behind a mask exactly if it is set in the mask and in the word.
masked : (w m n : ℕ) → pending (bit_and w m) n ≡ (pending m n && pending w n)
masked w m n =
    let a : ℕ = w / 2 ^ n in
    let b : ℕ = m / 2 ^ n in
    ap (λ (x : ℕ). x % 2 == 1) (and_shr w m n ∙ and_step a b) ∙ digit (bit_and (a / 2) (b / 2)) (a % 2) (b % 2) (omega arith) (omega arith)

-- Looking behind a mask is looking at the devices of the mask alone.
first_kept : (w m : ℕ) (ds : List ℕ) → first_pending w (keep (pending m) ds) ≡ first_pending (bit_and w m) ds
unfolding first_pending keep
first_kept w m [] = refl
first_kept w m (d ∷ ds) = go (pending m d) (pending (bit_and w m) d) (masked w m d) (first_kept w m ds)
  where
    go : (a b : Bool) → b ≡ (a && pending w d) → first_pending w (keep (pending m) ds) ≡ first_pending (bit_and w m) ds
        → first_pending w (if a then d ∷ keep (pending m) ds else keep (pending m) ds)
        ≡ (if b then taken d else first_pending (bit_and w m) ds)
    go true b e f = rw (e, f)
    go false b e f = rw e f

-- all devices, in rising order
abbrev rising : List ℕ
rising = from_on 0 devices

-- a mask of a class: of all devices it leaves those of the class
abbrev pub Mask : ℕ → List ℕ → Type 0
Mask m class = keep (pending m) rising ≡ class

-- three masks that together leave no device out
abbrev pub Whole : ℕ → ℕ → ℕ → Type 0
Whole l t r = any (λ d. not (pending l d || (pending t d || pending r d))) rising ≡ false

module _ (w : ℕ) (h : w < 2 ^ devices) where
  tried : pick w ≡ or_else (first_pending w lines) (or_else (first_pending w transmitters) (first_pending w receivers))
  tried = ordered w h ∙ first_of_three w lines transmitters receivers

  module _ {class : List ℕ} (m : ℕ) (mask : Mask m class) where
    behind : first_pending w class ≡ first_pending (bit_and w m) rising
    behind = ap (first_pending w) (sym mask) ∙ first_kept w m rising

    none : bit_and w m ≡ zero → first_pending w class ≡ no_pick
    none e = behind ∙ ap (λ (x : ℕ). first_pending x rising) e ∙ first_zero

    some : zero < bit_and w m → first_pending w class ≡ taken (count_trailing_zeros pending_bits (bit_and w m))
    some p = behind ∙ first_trailing (bit_and w m) p (lt_of_le_of_lt (and_le_l w m) h)

  -- A device that is pending is in no mask that leaves nothing of the word.
  not_in : (d m : ℕ) → pending w d ≡ true → bit_and w m ≡ zero → pending m d ≡ false
  not_in d m t e = go (pending m d) (sym (masked w m d) ∙ ap (λ (x : ℕ). pending x d) e ∙ no_bit 0 0 d (omega arith) zero-le)
    where
      go : (b : Bool) → (b && pending w d) ≡ false → b ≡ false
      go true f = absurd (clash t f)
      go false f = refl

  -- A word that is not zero has a device in one of three masks that leave none out: in the third, if not in the other two.
  third : (l t r : ℕ) → Whole l t r → zero < w → bit_and w l ≡ zero → bit_and w t ≡ zero → zero < bit_and w r
  third l t r whole p e f = ⊎_elim (λ g. absurd (clash (out g) whole)) (λ q. q) (eq-zero-or-pos (bit_and w r))
    where
      d : ℕ
      d = count_trailing_zeros pending_bits w

      L : Lowest w d
      L = trailing_lowest pending_bits w p (omega arith)

      out : bit_and w r ≡ zero → any (λ x. not (pending l x || (pending t x || pending r x))) rising ≡ true
      out g =
          any_at (λ x. not (pending l x || (pending t x || pending r x))) 0 devices d zero-le (lowest_lt devices w d h L)
          (rw (not_in d l L.set e, not_in d t L.set f, not_in d r L.set g))

  -- Where one of 0 to 31 is pending, the trailing zeros of those are the device;
  pub of_lines : {p : Picked} (l : ℕ) → p ≡ taken (count_trailing_zeros pending_bits (bit_and w l)) → zero < bit_and w l → Mask l lines → p ≡ pick w
  of_lines l q o a = q ∙ sym (tried ∙ rw (some l a o))

  -- else those of the transmitters, where one is pending;
  pub of_transmitters : {p : Picked} (l t : ℕ) → p ≡ taken (count_trailing_zeros pending_bits (bit_and w t)) → bit_and w l ≡ zero → zero < bit_and w t
      → Mask l lines → Mask t transmitters → p ≡ pick w
  of_transmitters l t q e o a b = q ∙ sym (tried ∙ rw (none l a e, some t b o))

  -- else those of the receivers.
  pub of_receivers : {p : Picked} (l t r : ℕ) → p ≡ taken (count_trailing_zeros pending_bits (bit_and w r)) → bit_and w l ≡ zero →
      bit_and w t ≡ zero → zero < w
      → Mask l lines → Mask t transmitters → Mask r receivers → Whole l t r → p ≡ pick w
  of_receivers l t r q e f o a b c whole = q ∙ sym (tried ∙ rw (none l a e, none t b f, some r c (third l t r whole o e f)))
