-- Big-endian numbers: two and four bytes are bytes, give back the number that they were made of, and make no larger one than they can.
-- And the number that four bytes somewhere in a list are.
use Prim.Native.Nat.{ℕ, ◌+◌, ◌*◌, ◌/◌, ◌%◌, ◌≤◌, ◌<◌}
use mathlib.Core.Path.{◌≡◌, refl, ap}
use mathlib.Core.Bool.{true}
use mathlib.Core.List.{List, [], ◌∷◌, ◌++◌}
use native.Mathlib.Nat.{add-zero}
use native.Mathlib.Omega.{arith}
use lib.ListN.{length, take, drop, get_or, length-drop}
use lib.Seq.{get_or-drop}
use borrow.Author.Tests.{ltb-true, lt-ltb}
use Rattle.rules.specs.Lists.{all, is_byte, number_from, number, two_bytes, four_bytes}
use Rattle.rules.specs.Numbers.{wrap}
use Rattle.laws.proofs.Tests.{and_left, and_right, ◌&◌}

rest_is_byte : (n : ℕ) → is_byte (n % 256) ≡ true
rest_is_byte n = lt-ltb (n % 256) 256 (omega arith)

pub two_are_bytes : (n : ℕ) → all is_byte (two_bytes n) ≡ true
unfolding all
two_are_bytes n = rest_is_byte (n / 256) & (rest_is_byte n & refl)

pub four_are_bytes : (n : ℕ) → all is_byte (four_bytes n) ≡ true
unfolding all
four_are_bytes n = rest_is_byte (n / 256 / 256 / 256) & (rest_is_byte (n / 256 / 256) & (rest_is_byte (n / 256) & (rest_is_byte n & refl)))

-- Two bytes give back a number below 65,536, as the reader of fields adds them up.
pub two_back : (n : ℕ) → n < 65536 → (n / 256 % 256) * 256 + n % 256 ≡ n
two_back n h = omega arith

-- Four bytes give back a number below 2^32.
pub four_back : (n : ℕ) → n < wrap → number (four_bytes n) ≡ n
unfolding number_from
four_back n h = omega arith

-- behind a number a, four bytes say a number of a with 32 bits more
pub four_number : (a n : ℕ) (bs : List ℕ) → number_from a (four_bytes n ++ bs) ≡ number_from (a * wrap + n % wrap) bs
unfolding number_from
four_number a n bs = ap (λ (x : ℕ). number_from x bs) (omega arith)

-- Four bytes or fewer say a number below 2^32.
pub number_below : (bs : List ℕ) → all is_byte bs ≡ true → length bs ≤ 4 → number bs < wrap
unfolding all number_from
number_below [] h l = omega arith
number_below (a ∷ []) h l = omega (arith, ltb-true a 256 (and_left (is_byte a) _ h))
number_below (a ∷ b ∷ []) h l =
    let i = and_right (is_byte a) _ h in omega (arith, ltb-true a 256 (and_left (is_byte a) _ h), ltb-true b 256 (and_left (is_byte b) _ i))
number_below (a ∷ b ∷ c ∷ []) h l =
    let i = and_right (is_byte a) _ h in
    let j = and_right (is_byte b) _ i in
    omega (
      arith,
      ltb-true a 256 (and_left (is_byte a) _ h),
      ltb-true b 256 (and_left (is_byte b) _ i),
      ltb-true c 256 (and_left (is_byte c) _ j),
    )
number_below (a ∷ b ∷ c ∷ d ∷ []) h l =
    let i = and_right (is_byte a) _ h in
    let j = and_right (is_byte b) _ i in
    let k = and_right (is_byte c) _ j in
    omega (
      arith,
      ltb-true a 256 (and_left (is_byte a) _ h),
      ltb-true b 256 (and_left (is_byte b) _ i),
      ltb-true c 256 (and_left (is_byte c) _ j),
      ltb-true d 256 (and_left (is_byte d) _ k),
    )
number_below (a ∷ b ∷ c ∷ d ∷ e ∷ bs) h l = absurd (omega arith)

pub first_four : (l : List ℕ) → 4 ≤ length l → take 4 l ≡ get_or l 0 0 ∷ get_or l 1 0 ∷ get_or l 2 0 ∷ get_or l 3 0 ∷ []
first_four [] h = absurd (omega arith)
first_four (a ∷ []) h = absurd (omega arith)
first_four (a ∷ b ∷ []) h = absurd (omega arith)
first_four (a ∷ b ∷ c ∷ []) h = absurd (omega arith)
first_four (a ∷ b ∷ c ∷ d ∷ l) h = refl

-- Four bytes, two by two.
pub four_at : (l : List ℕ) (at : ℕ) → at + 4 ≤ length l →
    (get_or l at 0 * 256 + get_or l (at + 1) 0) * 65536 + (get_or l (at + 2) 0 * 256 + get_or l (at + 3) 0) ≡ number (take 4 (drop at l))
unfolding number_from
four_at l at h =
    let m : 4 ≤ length (drop at l) = simp length-drop (omega arith) in
    rw first_four (simp (get_or-drop, add-zero) (omega arith))
