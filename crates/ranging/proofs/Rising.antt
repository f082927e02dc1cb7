-- Held words stand at their devices' places, and so by rising device, where each is held for a device.
use Rattle.std.proofs.Common.{◌==◌}
use Prim.Native.Nat.{ℕ, zero, suc, ◌≤◌, ◌<◌}
use mathlib.Core.Path.{◌≡◌, refl}
use mathlib.Core.Bool.{Bool, true}
use mathlib.Core.List.{List, [], ◌∷◌, ◌++◌}
use native.Mathlib.Omega.{arith}
use lib.Dec.{ltb}
use borrow.Author.Tests.{lt-ltb, eqb-false}
use Rattle.rules.specs.Lists.{all, chain, each, from_on}
use Rattle.rules.specs.Numbers.{devices}
use Rattle.laws.specs.Words.{Held}
use Rattle.laws.proofs.Tests.{by_if, ◌&◌}
use Rattle.words.specs.Saying.{held_in}
use Rattle.memory.specs.Memory.{rows_of}
use Rattle.memory.proofs.Helds.{helds, Gentle, told_gentle, flags, inside}

abbrev rise : Held → Held → Bool
rise h k = ltb h.device k.device

-- a first word that is 0 or 1
by_flag : (P : List Held → Type 0) (d f w : ℕ) → f ≤ 1 → P [] → P (record { device = d; word = w } ∷ []) → P (held_in d f w)
unfolding held_in
by_flag P d f w l none one =
    by_if P (f == 0) (λ e. none) (λ n. by_if P (f == 1) (λ e. one) (λ o. absurd (small f l (eqb-false f 0 n) (eqb-false f 1 o))))
  where
    small : (f : ℕ) → f ≤ 1 → (f ≡ 0 → ⊥) → (f ≡ 1 → ⊥) → ⊥
    small zero l a b = a refl
    small (suc zero) l a b = b refl
    small (suc (suc f)) l a b = omega arith

module _ (F W : ℕ → ℕ) where
  behind : (x : Held) (a n : ℕ) → x.device < a → Gentle F W a n → chain rise (x ∷ helds F W a n) ≡ true
  unfolding chain each from_on
  behind x a zero h g = refl
  behind x a (suc n) h g =
      by_flag (λ (hs : List Held). chain rise (x ∷ (hs ++ helds F W (suc a) n)) ≡ true) a (F a) (W a) (g a (omega arith) (omega arith))
      (behind x (suc a) n (omega arith) (λ j p q. g j (omega arith) (omega arith)))
      (lt-ltb x.device a h & behind (record { device = a; word = W a }) (suc a) n (omega arith)
      (λ j p q. g j (omega arith) (omega arith)))

  rising : (a n : ℕ) → Gentle F W a n → chain rise (helds F W a n) ≡ true
  unfolding chain each from_on
  rising a zero g = refl
  rising a (suc n) g =
      by_flag (λ (hs : List Held). chain rise (hs ++ helds F W (suc a) n) ≡ true) a (F a) (W a) (g a (omega arith) (omega arith))
      (rising (suc a) n (λ j p q. g j (omega arith) (omega arith)))
      (behind (record { device = a; word = W a }) (suc a) n (omega arith) (λ j p q. g j (omega arith) (omega arith)))

pub held_rises : (m : List ℕ) → all (λ h. ltb h.device devices) (rows_of m).held ≡ true →
    chain (λ h k. ltb h.device k.device) (rows_of m).held ≡ true
unfolding rows_of
held_rises m e = rising (flags m) (inside m) 0 devices (told_gentle (flags m) (inside m) e)
