-- `is_sorted_by` on the entries of a row: does a relation hold of each entry and its successor?
use Rattle.std.proofs.Common.{◌≡◌, ℕ, zero, suc, ◌<◌, ◌≤◌, Bool, true, false, List, [], ◌∷◌, length, get_or, refl, sym, ap, ap₂, ◌∙◌, arith, IsTrue, add-one, subst}
use Rattle.std.specs.Iterator.{YieldsFirst}
use Rattle.std.specs.Iterator.Runs.{Run, SomeRun}
use Rattle.std.specs.Iterator.Order.{IsSortedAnswer}
use Rattle.std.specs.Bool.{OnTrue}
use Rattle.std.proofs.iter.Rest.{run_of_first}
use Rattle.rules.specs.Lists.{chain}
use Rattle.laws.proofs.Tests.{and_false}

module _ {A : Type 0} (q : A → A → Bool) where
  holds : (xs : List A) → ((k : ℕ) (d : A) → suc k < length xs → q (get_or xs k d) (get_or xs (suc k) d) ≡ true) → chain q xs ≡ true
  unfolding chain
  holds [] h = refl
  holds (x ∷ []) h = refl
  holds (x ∷ y ∷ xs) h = rw (h 0 x (omega arith)) (holds (y ∷ xs) (λ k d l. h (suc k) d (omega arith)))

  fails : (xs : List A) (k : ℕ) (d : A) → suc k < length xs → q (get_or xs k d) (get_or xs (suc k) d) ≡ false → chain q xs ≡ false
  unfolding chain
  fails [] k d l e = absurd (omega arith)
  fails (x ∷ []) k d l e = absurd (omega arith)
  fails (x ∷ y ∷ xs) zero d l e = rw e
  fails (x ∷ y ∷ xs) (suc k) d l e = rw (fails (y ∷ xs) k d (omega arith) e) (and_false (q x y))

  -- the same where xs are the first of ys
  fails_first : (xs ys : List A) → length xs ≤ length ys → ((k : ℕ) (d : A) → k < length xs → get_or xs k d ≡ get_or ys k d) →
      (k : ℕ) → suc k < length xs → ((d : A) → q (get_or xs k d) (get_or xs (suc k) d) ≡ false) → chain q ys ≡ false
  fails_first [] ys w same k l e = absurd (omega arith)
  fails_first (x ∷ xs) ys w same k l e =
      fails ys k x (omega arith) (ap₂ q (sym (same k x (omega arith))) (sym (same (suc k) x (omega arith))) ∙ e x)

module _ {S A : Type 0} (rest : S → List A) (s : S) (q : A → A → Bool) where
  -- an item of a run is the entry of its place
  there : (p : Run (YieldsFirst rest)) → p.from ≡ s → (k : ℕ) (d : A) → k < length p.items → get_or p.items k d ≡ get_or (rest s) k d
  there p e k d l =
      let a = p.reads k d (omega (arith, p.long)) in
      let b = (run_of_first rest p).1.2 k d (omega (arith, p.long)) in
      let c : get_or p.items k d ≡ get_or (rest p.from) k d = cc in
      c ∙ ap (λ (t : S). get_or (rest t) k d) e

  within : (p : Run (YieldsFirst rest)) → p.from ≡ s → length p.items ≤ length (rest s)
  within p e = omega (arith, p.long, (run_of_first rest p).1.0, ap (λ (t : S). length (rest t)) e)

  pub neighbours : (r : Bool) → SomeRun (YieldsFirst rest) s (λ p. OnTrue r (IsTrue p.whole) × IsSortedAnswer q p.items r) →
      r ≡ chain q (rest s)
  neighbours true w =
      let e : w.0.items ≡ rest s = (run_of_first rest w.0).1.4 w.2.0 ∙ ap rest w.1 in
      sym (holds q (rest s) (subst (λ (l : List A). (k : ℕ) (d : A) → suc k < length l → q (get_or l k d) (get_or l (suc k) d) ≡ true) e
      (λ k d l. rw (← add-one k) ((w.2.1.1 k d (omega arith)).1))))
  neighbours false w =
      let z = w.2.1.0 in
      sym (fails_first q w.0.items (rest s) (within w.0 w.1) (there w.0 w.1) z.0 (omega (arith, z.1)) (λ d. rw (← add-one z.0) (z.2 d)))
