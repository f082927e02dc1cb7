-- Queues of names: how often a name stands in one, how many stand before it, and what more behind or fewer before do to that.
use Rattle.std.proofs.Common.{if◌then◌else◌, ◌==◌}
use Prim.Native.Nat.{ℕ, suc, ◌+◌, ◌≤◌, ◌<◌}
use mathlib.Core.Path.{◌≡◌, refl, sym, ap, ◌∙◌}
use mathlib.Core.Logic.{⊎_elim, ◌≢◌}
use mathlib.Core.Bool.{Bool, true, false≢true}
use mathlib.Core.List.{List, [], ◌∷◌, ◌++◌, append-nil, append_assoc}
use native.Mathlib.Omega.{arith}
use lib.ListN.{length}
use borrow.Author.Tests.{eq-eqb, ne_eqb}
use Rattle.rules.specs.Lists.{one_if, any, keep, count, has, times_in}
use Rattle.laws.proofs.Tests.{by_if, same?}
use Rattle.laws.proofs.Tally.{count_cons, count_append}
use Rattle.laws.proofs.Members.{has_left}

-- ---- how often a name stands in a queue

pub times_none : (n : ℕ) → times_in [] n ≡ 0
unfolding count
times_none n = refl

pub times_self : (n : ℕ) (q : List ℕ) → times_in (n ∷ q) n ≡ 1 + times_in q n
times_self n q = count_cons (λ m. n == m) n q ∙ rw (eq-eqb n n refl)

pub times_other : (n m : ℕ) (q : List ℕ) → n ≢ m → times_in (m ∷ q) n ≡ times_in q n
times_other n m q d = count_cons (λ k. n == k) m q ∙ rw (ne_eqb n m d) (omega arith)

pub tail_self : (q : List ℕ) (m : ℕ) → times_in (q ++ (m ∷ [])) m ≡ times_in q m + 1
tail_self q m = omega (arith, count_append (λ k. m == k) q (m ∷ []), times_self m [], times_none m)

pub tail_other : (q : List ℕ) (n m : ℕ) → n ≢ m → times_in (q ++ (m ∷ [])) n ≡ times_in q n
tail_other q n m d = omega (arith, count_append (λ k. n == k) q (m ∷ []), times_other n m [] d, times_none n)

-- one of the numbers taken out
one_out : (x : ℕ) (ys : List ℕ) → 1 ≤ times_in ys x → (zs : List ℕ) × (length ys ≡ suc (length zs))
    × ((n : ℕ) → times_in ys n ≡ one_if (n == x) + times_in zs n)
unfolding count
one_out x [] h = absurd (omega arith)
one_out x (y ∷ ys) h =
    ⊎_elim
    (λ e. (ys, refl, λ n. rw e.0))
    (λ e. let r = one_out x ys (omega (arith, ap one_if e.1)) in (y ∷ r.0, ap suc r.1, λ n. omega (arith, r.2 n)))
    (same? x y)

-- a list in which no number stands more often than in another is no longer than that
pub no_longer : (xs ys : List ℕ) → ((n : ℕ) → times_in xs n ≤ times_in ys n) → length xs ≤ length ys
unfolding count
no_longer [] ys h = omega arith
no_longer (x ∷ xs) ys h =
    let r = one_out x ys (omega (arith, h x, ap one_if (eq-eqb x x refl))) in
    omega (arith, r.1, no_longer xs r.0 (λ n. omega (arith, h n, r.2 n)))

-- ---- how many stand before a name

unfoldable pub ahead : ℕ → List ℕ → ℕ
ahead n [] = 0
ahead n (m ∷ q) = if n == m then 0 else 1 + ahead n q

pub ahead_less : (n : ℕ) (q : List ℕ) → has n q ≡ true → ahead n q < length q
unfolding any ahead
ahead_less n [] h = absurd (false≢true h)
ahead_less n (x ∷ q) h = ⊎_elim (λ e. rw e.1 (omega arith)) (λ e. rw e.1 (omega (arith, ahead_less n q (rw e.1 at h)))) (same? n x)

-- more behind n changes nothing for it
pub ahead_append : (n : ℕ) (q r : List ℕ) → has n q ≡ true → ahead n (q ++ r) ≡ ahead n q
unfolding any ahead
ahead_append n [] r h = absurd (false≢true h)
ahead_append n (x ∷ q) r h =
    ⊎_elim (λ e. rw e.1) (λ e. rw e.1 (ap (λ (k : ℕ). 1 + k) (ahead_append n q r (rw e.1 at h)))) (same? n x)

-- who is kept stands with no more before it
pub ahead_keep : (k : ℕ → Bool) (n : ℕ) (q : List ℕ) → k n ≡ true → has n q ≡ true → (has n (keep k q) ≡ true)
    × (ahead n (keep k q) ≤ ahead n q)
unfolding any keep ahead
ahead_keep k n [] h i = absurd (false≢true i)
ahead_keep k n (x ∷ q) h i =
    ⊎_elim
    (λ e. rw (sym (ap k e.0) ∙ h, e.1) (refl, omega arith))
    (λ e.
    let later = ahead_keep k n q h (rw e.1 at i) in
    by_if (λ (l : List ℕ). (has n l ≡ true) × (ahead n l ≤ ahead n (x ∷ q))) (k x)
    (λ _. rw e.1 (later.0, omega (arith, later.1)))
    (λ _. rw e.1 (later.0, omega (arith, later.1))))
    (same? n x)

-- ---- a queue with more behind it

pub record Longer (q r : List ℕ) : Type 0 where
  pub more : List ℕ
  pub whole : r ≡ q ++ more

pub longer_same : {q r : List ℕ} → r ≡ q → Longer q r
longer_same {q} e = record { more = []; whole = e ∙ sym (append-nil q) }

pub longer_trans : {q r s : List ℕ} → Longer q r → Longer r s → Longer q s
longer_trans {q} a b = record {
  more = a.more ++ b.more;
  whole = b.whole ∙ ap (λ (l : List ℕ). l ++ b.more) a.whole
      ∙ append_assoc q a.more b.more;
}

pub longer_place : (n : ℕ) {q r : List ℕ} → Longer q r → has n q ≡ true → (has n r ≡ true) × (ahead n r ≡ ahead n q)
longer_place n {q} l h = rw l.whole (has_left n q l.more h, ahead_append n q l.more h)
