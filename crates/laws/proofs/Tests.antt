-- Tests: taken apart, put together, and turned into facts and numbers.
use Rattle.std.proofs.Common.{if◌then◌else◌, ◌==◌}
use Prim.Native.Nat.{ℕ, ◌+◌, ◌≤◌}
use mathlib.Core.Path.{◌≡◌, refl, sym, ◌∙◌}
use mathlib.Core.Logic.{◌⊎◌, inl, inr, ⊎_elim, ◌≢◌}
use mathlib.Core.Bool.{Bool, true, false, ◌&&◌, ◌||◌, not, true≢false, false≢true}
use native.Mathlib.Omega.{arith}
use borrow.Author.Tests.{eqb-true, eqb-false, ne_eqb}
use Rattle.rules.specs.Lists.{one_if}
use Rattle.rules.specs.Words.{by_runner}
use Rattle.laws.specs.Words.{Runner, NoRunner, Runs}

-- to prove something of `if b then x else y`: prove it of each
pub by_if : {A : Type 0} (P : A → Type 0) (b : Bool) {x y : A} → (b ≡ true → P x) → (b ≡ false → P y) → P (if b then x else y)
by_if P true f g = f refl
by_if P false f g = g refl

-- the same of a value by the runner
pub by_runs : {A : Type 0} (P : A → Type 0) (r : Runner) {x : A} {f : ℕ → ℕ → A} → (r ≡ NoRunner → P x) →
    ((n s : ℕ) → r ≡ Runs n s → P (f n s)) → P (by_runner x f r)
by_runs P NoRunner a b = a refl
by_runs P (Runs n s) a b = b n s refl

-- a test cannot be both
pub clash : {b : Bool} → b ≡ true → b ≡ false → ⊥
clash x y = true≢false (sym x ∙ y)

-- a test is one or the other, with what that says of its numbers
pub same? : (a b : ℕ) → ((a ≡ b) × ((a == b) ≡ true)) ⊎ ((a ≢ b) × ((a == b) ≡ false))
same? a b = go (a == b) refl
  where
    go : (t : Bool) → (a == b) ≡ t → ((a ≡ b) × ((a == b) ≡ true)) ⊎ ((a ≢ b) × ((a == b) ≡ false))
    go true e = inl (eqb-true a b e, e)
    go false e = inr (eqb-false a b e, e)

pub same_turned : (a b : ℕ) → (a == b) ≡ (b == a)
same_turned a b = ⊎_elim (λ e. rw e.0) (λ e. e.1 ∙ sym (ne_eqb b a (λ i. e.0 (sym i)))) (same? a b)

-- ---- and

pub and_left : (a b : Bool) → (a && b) ≡ true → a ≡ true
and_left true b e = refl
and_left false b e = e

pub and_right : (a b : Bool) → (a && b) ≡ true → b ≡ true
and_right true b e = e
and_right false b e = absurd (false≢true e)

infixl 30 ◌&◌
pub ◌&◌ : {a b : Bool} → a ≡ true → b ≡ true → (a && b) ≡ true
◌&◌ {a} {b} x y = rw x y

pub and_true : (b : Bool) → (b && true) ≡ b
and_true true = refl
and_true false = refl

pub and_false : (b : Bool) → (b && false) ≡ false
and_false true = refl
and_false false = refl

pub and_turned : (a b : Bool) → (a && b) ≡ (b && a)
and_turned true b = sym (and_true b)
and_turned false b = sym (and_false b)

pub and_twice : (a b : Bool) → (a && (a && b)) ≡ (a && b)
and_twice true b = refl
and_twice false b = refl

pub and_self : (a b : Bool) → (a && (b && b)) ≡ (a && b)
and_self false b = refl
and_self true true = refl
and_self true false = refl

pub not_both : (b : Bool) → (not b && b) ≡ false
not_both true = refl
not_both false = refl

-- three tests of which the last two exclude one another
pub never : (a b c : Bool) → (b ≡ true → c ≡ false) → (a && (b && c)) ≡ false
never false b c h = refl
never true false c h = refl
never true true c h = h refl

-- three, four and six tests that all pass
pub three : (a b c : Bool) → (a && b && c) ≡ true → (a ≡ true) × (b ≡ true) × (c ≡ true)
three a b c h = let g = and_left (a && b) c h in (and_left a b g, and_right a b g, and_right (a && b) c h)

pub four : (a b c d : Bool) → (a && b && c && d) ≡ true → (a ≡ true) × (b ≡ true) × (c ≡ true) × (d ≡ true)
four a b c d h = let g = three a b c (and_left (a && b && c) d h) in (g.0, g.1, g.2, and_right (a && b && c) d h)

pub six : (a b c d e f : Bool) → (a && b && c && d && e && f) ≡ true → (a ≡ true) × (b ≡ true) × (c ≡ true) × (d ≡ true) × (e ≡ true)
    × (f ≡ true)
six a b c d e f h = let g = three (a && b && c && d) e f h in let k = four a b c d g.0 in (k.0, k.1, k.2, k.3, g.1, g.2)

-- ---- or, not

pub or_cases : (a b : Bool) → (a || b) ≡ true → (a ≡ true) ⊎ (b ≡ true)
or_cases true b e = inl refl
or_cases false b e = inr e

pub or_left : (a b : Bool) → a ≡ true → (a || b) ≡ true
or_left a b e = rw e

pub or_right : (a b : Bool) → b ≡ true → (a || b) ≡ true
or_right true b e = refl
or_right false b e = e

pub or_false : (a b : Bool) → (a || b) ≡ false → (a ≡ false) × (b ≡ false)
or_false true b e = absurd (true≢false e)
or_false false b e = (refl, e)

pub not_true : (b : Bool) → not b ≡ true → b ≡ false
not_true true e = sym e
not_true false e = refl

pub not_false : (b : Bool) → not b ≡ false → b ≡ true
not_false true e = refl
not_false false e = sym e

-- ---- as numbers

pub one_at_most : (b : Bool) → one_if b ≤ 1
one_at_most true = omega arith
one_at_most false = omega arith

pub one_less : (a b : Bool) → (a ≡ true → b ≡ true) → one_if a ≤ one_if b
one_less true true h = omega arith
one_less true false h = absurd (false≢true (h refl))
one_less false b h = omega arith

pub one_kind : (b : Bool) → one_if b + one_if (not b) ≡ 1
one_kind true = refl
one_kind false = refl

pub one_true : (b : Bool) → 1 ≤ one_if b → b ≡ true
one_true true h = refl
one_true false h = absurd (omega arith)
