-- How often each name stands in a row, by one pass over it.
use Rattle.std.proofs.Common.{◌==◌, ◌≡◌, ℕ, zero, suc, ◌+◌, ◌<◌, ◌≤◌, List, [], ◌∷◌, ◌++◌, length, get_or, refl, ap, ◌∙◌, arith}
use Rattle.std.proofs.Math.ListN.{set, replicate, length-set, length-replicate}
use lib.Seq.{get_or-set_same, get_or-set_other}
use mathlib.Core.Logic.{⊎_elim}
use borrow.Author.Tests.{eq-eqb, ne_eqb}
use Rattle.rules.specs.Lists.{one_if, count, times_in}
use Rattle.laws.proofs.Tests.{same?}
use Rattle.laws.proofs.Tally.{count_append, count_length}

-- c has how often each name stands among those passed
pub record Tallied (c : List ℕ) (done : List ℕ) : Type 0 where
  pub size : length c ≡ 256
  pub so : (k : ℕ) → get_or c k 0 ≡ times_in done k

zeros : (n k : ℕ) → get_or {A = ℕ} (replicate n 0) k 0 ≡ 0
zeros zero k = refl
zeros (suc n) zero = refl
zeros (suc n) (suc k) = zeros n k

pub tally_starts : Tallied (replicate 256 0) []
unfolding count
tally_starts = record { size = length-replicate {A = ℕ} 256 0; so = zeros 256 }

module _ (c done : List ℕ) (x : ℕ) (T : Tallied c done) (low : x < 256) where
  one_more : (k : ℕ) → times_in (done ++ x ∷ []) k ≡ times_in done k + one_if (k == x)
  unfolding count
  one_more k = count_append (λ m. k == m) done (x ∷ []) ∙ omega arith

  pub tally_next : (j : ℕ) → j ≡ x → Tallied (set c j (get_or c j 0 + 1)) (done ++ x ∷ [])
  tally_next j e = rw e (record {
    size = length-set c x _ ∙ T.size;
    so = λ k. ⊎_elim
        (λ q. rw q.0 (get_or-set_same c x (get_or c x 0 + 1) 0 (omega (arith, T.size))
        ∙ omega (arith, T.so x, one_more x, ap one_if (eq-eqb x x refl))))
        (λ q. get_or-set_other c x k (get_or c x 0 + 1) 0 q.0 ∙ omega (arith, T.so k, one_more k, ap one_if (ne_eqb k x q.0)))
        (same? k x);
  })

  -- no count is above the number of names passed
  pub tally_low : (j : ℕ) → j ≡ x → get_or c j 0 ≤ length done
  tally_low j e = rw e (omega (arith, T.so x, count_length (λ m. x == m) done))
