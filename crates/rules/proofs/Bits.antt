-- Trailing zeros and bits: the lowest set bit of a word, over the width, and the first pending one of a list of devices.
use Rattle.std.proofs.Common.{if◌then◌else◌, ◌==◌}
use Prim.Native.Nat.{ℕ, zero, suc, ◌+◌, ◌-◌, ◌/◌, ◌%◌, ◌^◌, ◌≤◌, ◌<◌, zero-le}
use mathlib.Core.Path.{◌≡◌, refl, sym, ap, ◌∙◌}
use mathlib.Core.Logic.{⊎_elim}
use mathlib.Core.Bool.{Bool, true, false, ◌||◌, true≢false}
use mathlib.Core.List.{List, [], ◌∷◌, ◌++◌}
use native.Mathlib.Nat.{eq-or-lt_of_le, lt_of_lt_of_le, lt_of_not-le, div-eq_of_lt, div-one, le-div_iff_mul-le, one-mul}
use native.Mathlib.Numerals.{add-one, one-add}
use native.Mathlib.Omega.{arith}
use lib.Count.{count_trailing_zeros, under}
use lib.Pow.{pow_pos, pow_mono, shr_lt, shr-shr}
use borrow.Author.Tests.{eq-eqb}
use Rattle.rules.specs.Lists.{any, from_on}
use Rattle.rules.specs.Numbers.{devices, pending_bits}
use Rattle.rules.specs.Words.{Picked}
use Rattle.rules.specs.Pick.{pending, pick_order, no_pick, first_pending, pick}

pub clash : {b : Bool} → b ≡ true → b ≡ false → ⊥
clash t f = true≢false (sym t ∙ f)

-- ---- bits of a word of any width

shifted : (w j n : ℕ) → pending (w / 2 ^ j) n ≡ pending w (j + n)
shifted w j n = ap (λ (x : ℕ). x % 2 == 1) (shr-shr w j n)

halved : (w n : ℕ) → pending (w / 2) n ≡ pending w (suc n)
halved w n = shifted w 1 n ∙ ap (pending w) (one-add n)

-- A word below 2 ^ k has no bit from k on.
pub no_bit : (k w n : ℕ) → w < 2 ^ k → k ≤ n → pending w n ≡ false
no_bit k w n h l = rw (div-eq_of_lt (lt_of_lt_of_le h (pow_mono l)))

-- n is the lowest set bit of w
pub record Lowest (w n : ℕ) : Type 0 where
  pub set : pending w n ≡ true
  pub clear : (m : ℕ) → m < n → pending w m ≡ false

doubled : (w t : ℕ) → w % 2 ≡ 0 → Lowest (w / 2) t → Lowest w (suc t)
doubled w t e L = record { set = sym (halved w t) ∙ L.set; clear = clear }
  where
    clear : (m : ℕ) → m < suc t → pending w m ≡ false
    clear zero h = rw (div-one, e)
    clear (suc m) h = sym (halved w m) ∙ L.clear m (omega arith)

-- Trailing zeros are the place of the lowest set bit.
pub trailing_lowest : (k w : ℕ) → zero < w → w < 2 ^ k → Lowest w (count_trailing_zeros k w)
unfolding count_trailing_zeros
trailing_lowest zero w p h = absurd (omega arith)
trailing_lowest (suc k) w p h = go (w % 2) refl (λ q. trailing_lowest k (w / 2) q (shr_lt k 1 (rw add-one h)))
  where
    go : (d : ℕ) → w % 2 ≡ d → (zero < w / 2 → Lowest (w / 2) (count_trailing_zeros k (w / 2))) → Lowest w (under d (count_trailing_zeros k (w / 2)))
    go zero e rest = doubled w _ e (rest (omega arith))
    go (suc d) e rest = record { set = eq-eqb (w / 1 % 2) 1 (omega arith); clear = λ m g. absurd (omega arith) }

pub lowest_lt : (k w n : ℕ) → w < 2 ^ k → Lowest w n → n < k
lowest_lt k w n h L = lt_of_not-le (λ (l : k ≤ n). absurd (clash L.set (no_bit k w n h l)))

-- A word of 2 ^ k or more that has j + k bits has one of them at k or above.
pub high_bit : (j k w : ℕ) → 2 ^ k ≤ w → w < 2 ^ (j + k) → (n : ℕ) × (k ≤ n) × (n < j + k) × (pending w n ≡ true)
high_bit j k w l h =
    let v : ℕ = w / 2 ^ k in
    let b : v < 2 ^ j = shr_lt j k h in
    let L = trailing_lowest j v ((le-div_iff_mul-le (pow_pos k)).1 (rw one-mul l)) b in
    let t = lowest_lt j v (count_trailing_zeros j v) b L in
    (k + count_trailing_zeros j v, omega arith, omega arith, sym (shifted w k (count_trailing_zeros j v)) ∙ L.set)

-- ---- the numbers from a on, one after the other

-- the answer that serves a device
abbrev pub taken : ℕ → Picked
taken d = record { refusal = 0; device = d }

or_right : (a b : Bool) → b ≡ true → (a || b) ≡ true
or_right true b t = refl
or_right false b t = t

pub any_at : (p : ℕ → Bool) (a n m : ℕ) → a ≤ m → m < a + n → p m ≡ true → any p (from_on a n) ≡ true
unfolding any from_on
any_at p a zero m l h t = absurd (omega arith)
any_at p a (suc n) m l h t =
    ⊎_elim (λ (e : a ≡ m). rw (ap p e ∙ t)) (λ g. or_right (p a) _ (any_at p (suc a) n m g (omega arith) t)) (eq-or-lt_of_le l)

any_none : (p : ℕ → Bool) (a n : ℕ) → ((m : ℕ) → a ≤ m → m < a + n → p m ≡ false) → any p (from_on a n) ≡ false
unfolding any from_on
any_none p a zero f = refl
any_none p a (suc n) f = rw (f a (omega arith) (omega arith)) (any_none p (suc a) n (λ m l h. f m (omega arith) (omega arith)))

first_at : (w a n d : ℕ) → a ≤ d → d < a + n → Lowest w d → first_pending w (from_on a n) ≡ taken d
unfolding first_pending from_on
first_at w a zero d l h L = absurd (omega arith)
first_at w a (suc n) d l h L =
    ⊎_elim (λ (e : a ≡ d). rw (ap (pending w) e ∙ L.set) (ap taken e))
    (λ g. rw (L.clear a g) (first_at w (suc a) n d g (omega arith) L))
    (eq-or-lt_of_le l)

-- what one list gives, or the next where it gives nothing
abbrev pub or_else : Picked → Picked → Picked
or_else p q = if p.refusal == 0 then p else q

first_both : (w : ℕ) (ds es : List ℕ) → first_pending w (ds ++ es) ≡ or_else (first_pending w ds) (first_pending w es)
unfolding first_pending
first_both w [] es = refl
first_both w (d ∷ ds) es = go (pending w d) (first_both w ds es)
  where
    go : (b : Bool) → first_pending w (ds ++ es) ≡ or_else (first_pending w ds) (first_pending w es)
        → (if b then taken d else first_pending w (ds ++ es)) ≡ or_else (if b then taken d else first_pending w ds) (first_pending w es)
    go true e = refl
    go false e = e

pub first_of_three : (w : ℕ) (ds es fs : List ℕ)
    → first_pending w (ds ++ (es ++ fs)) ≡ or_else (first_pending w ds) (or_else (first_pending w es) (first_pending w fs))
first_of_three w ds es fs = first_both w ds (es ++ fs) ∙ ap (or_else (first_pending w ds)) (first_both w es fs)

-- Trailing zeros are the first pending device in rising order.
pub first_trailing : (w : ℕ) → zero < w → w < 2 ^ devices → first_pending w (from_on 0 devices) ≡ taken (count_trailing_zeros pending_bits w)
first_trailing w p h = let L =
    trailing_lowest pending_bits w p (omega arith) in first_at w 0 devices _ zero-le (lowest_lt devices w _ h L) L

pub first_zero : first_pending 0 (from_on 0 devices) ≡ no_pick
first_zero = unfold first_pending from_on in refl

-- ---- the pick, by what is pending

-- the bits that stand for no device
abbrev pub spare : ℕ
spare = pending_bits - devices

over : (w n : ℕ) → devices ≤ n → n < pending_bits → pending w n ≡ true → pick w ≡ no_pick
unfolding pick
over w n l h t = rw (any_at (pending w) devices spare n l h t)

-- With no device over 47 pending, the order decides.
pub ordered : (w : ℕ) → w < 2 ^ devices → pick w ≡ first_pending w pick_order
unfolding pick
ordered w h = rw (any_none (pending w) devices spare (λ n l g. no_bit devices w n h l))

-- A word with no bit is refused.
pub pick_zero : pick 0 ≡ no_pick
pick_zero = unfold pick first_pending any from_on in refl

-- A word of 2 ^ 48 or more is refused.
pub pick_high : (w : ℕ) → 2 ^ devices ≤ w → w < 2 ^ pending_bits → pick w ≡ no_pick
pick_high w l h = let b = high_bit spare devices w l h in over w b.0 b.1 b.2 b.3
