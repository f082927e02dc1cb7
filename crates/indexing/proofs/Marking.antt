-- Marks: none at first, one more where a number is met, and what that says of how often it is met in all.
use Prim.Native.Nat.{ℕ, suc, ◌≤◌, ◌<◌}
use mathlib.Core.Path.{◌≡◌, refl, sym, ap, ◌∙◌}
use mathlib.Core.Logic.{◌≢◌, ⊎_elim}
use mathlib.Core.Bool.{Bool, true, false}
use mathlib.Core.List.{List, [], ◌∷◌, ◌++◌, Memᴰ, append-nil}
use Rattle.std.proofs.Common.{append_assoc}
use native.Mathlib.Omega.{arith}
use lib.ListN.{length, get_or, set, replicate, length-set, length-replicate, get_or-replicate}
use lib.Seq.{get_or-set_same, get_or-set_other}
use Rattle.rules.specs.Lists.{one_if, all}
use Rattle.laws.proofs.Tests.{◌&◌, clash, same?}
use Rattle.laws.proofs.Tally.{all_at}
use Rattle.indexing.specs.Marks.{Marked}

-- ---- marks

pub none_marked : (n size : ℕ) (f : ℕ → ℕ) → n ≤ size → ((k : ℕ) → f k ≡ 0) → Marked n f (replicate size false)
none_marked n size f h z =
    record {
      long = omega (arith, length-replicate {A = Bool} size false);
      says = λ k l. ap one_if (get_or-replicate size k false false (omega arith)) ∙ sym (z k);
      few = λ k l. omega (arith, z k);
    }

module _ (n : ℕ) (f g : ℕ → ℕ) (marks : List Bool) (M : Marked n f marks) where
  -- nothing more is met
  pub still_marked : ((k : ℕ) → k < n → g k ≡ f k) → Marked n g marks
  still_marked e = record { long = M.long; says = λ k l. M.says k l ∙ sym (e k l); few = λ k l. omega (arith, e k l, M.few k l) }

  -- a number is met, and no other
  pub marked_there : (j : ℕ) → j < n → g j ≡ 1 → ((k : ℕ) → k < n → k ≢ j → g k ≡ f k) → Marked n g (set marks j true)
  marked_there j h there others =
      record {
        long = omega (arith, length-set marks j true, M.long);
        says = λ k l. ⊎_elim
            (λ e. rw e.0 (ap one_if (get_or-set_same marks j true false (omega (arith, M.long))) ∙ sym there))
            (λ e. ap one_if (get_or-set_other marks j k true false e.0) ∙ M.says k l ∙ sym (others k l e.0))
            (same? k j);
        few = λ k l. ⊎_elim (λ e. rw e.0 (omega (arith, there))) (λ e. omega (arith, others k l e.0, M.few k l)) (same? k j);
      }

-- ---- a test of all
module _ {A : Type 0} (p : A → Bool) where
  pub all_places : (z : A) (l : List A) → ((i : ℕ) → i < length l → p (get_or l i z) ≡ true) → all p l ≡ true
  unfolding all
  all_places z [] h = refl
  all_places z (x ∷ l) h = h 0 (omega arith) & all_places z l (λ i k. h (suc i) (omega arith))

  pub one_fails : (l : List A) (x : A) → Memᴰ x l → p x ≡ false → all p l ≡ false
  one_fails l x m e = go (all p l) refl
    where
      go : (b : Bool) → all p l ≡ b → b ≡ false
      go true k = absurd (clash (all_at p l k x m) e)
      go false k = refl

-- ---- a walk over a list: the items passed, and what is left
module _ {A : Type 0} (done : List A) {left all : List A} (split : done ++ left ≡ all) where
  pub walk_here : (x : A) (next : List A) → left ≡ x ∷ next → done ++ x ∷ next ≡ all
  walk_here x next e = ap (λ (l : List A). done ++ l) (sym e) ∙ split

  pub walk_next : (x : A) (next : List A) → left ≡ x ∷ next → (done ++ x ∷ []) ++ next ≡ all
  walk_next x next e = append_assoc done (x ∷ []) next ∙ walk_here x next e

  pub walk_ends : left ≡ [] → done ≡ all
  walk_ends e = sym (append-nil done) ∙ ap (λ (l : List A). done ++ l) (sym e) ∙ split
