-- The marks beside an ending's set: none at first, then one more name.
use Rattle.std.proofs.Common.{◌==◌}
use Prim.Native.Nat.{ℕ, ◌≤◌, ◌<◌}
use mathlib.Core.Path.{◌≡◌, refl, sym, ap, ◌∙◌, subst}
use mathlib.Core.Bool.{Bool, true, false, ◌||◌}
use mathlib.Core.List.{List, [], ◌∷◌, ◌++◌}
use native.Mathlib.Omega.{arith}
use lib.Dec.{eqb, ltb}
use lib.ListN.{length, take, get_or, set, replicate, length-set, length-replicate, get_or-replicate, length-append}
use lib.Seq.{take_all, take-nil, take-append-le, get_or-set_same, get_or-set_other}
use borrow.Author.Tests.{ltb-true, ltb-false, le-ltb, eqb-true, eqb-false, eq-eqb}
use Rattle.rules.specs.Lists.{any, has}
use Rattle.laws.proofs.Tally.{any_append}
use Rattle.moving.specs.Marks.{Marks}

pub no_marks : Marks [] (replicate 256 255)
unfolding any
no_marks = record {
  size = length-replicate {A = ℕ} 256 255;
  told = λ k n h b. ap (λ (x : ℕ). ltb x n) (get_or-replicate {A = ℕ} 256 k 255 0 h)
      ∙ (le-ltb 255 n b ∙ sym (ap (has k) (take-nil {A = ℕ} n)));
}

or_no : (b : Bool) → (b || false) ≡ b
or_no true = refl
or_no false = refl

or_true : (b : Bool) → (b || true) ≡ true
or_true true = refl
or_true false = refl

-- x joins the list xs, which has the marks ms
module _ (xs ms : List ℕ) (x : ℕ) (low : length xs < 255) (named : x < 256) (M : Marks xs ms) where
  front : (k n : ℕ) → n ≤ length xs → has k (take n (xs ++ (x ∷ []))) ≡ has k (take n xs)
  front k n h = ap (has k) (take-append-le n xs (x ∷ []) h)

  whole : (k n : ℕ) → length xs < n → has k (take n (xs ++ (x ∷ []))) ≡ (has k xs || (k == x))
  unfolding any
  whole k n h = ap (has k) (take_all n (xs ++ (x ∷ [])) (omega (arith, length-append xs (x ∷ []))))
      ∙ (any_append (λ j. k == j) xs (x ∷ []) ∙ ap (λ (b : Bool). has k xs || b) (or_no (k == x)))

  -- of another name nothing changes
  other : (k n : ℕ) → eqb k x ≡ false → n ≤ 255 → has k (take n xs) ≡ has k (take n (xs ++ (x ∷ [])))
  other k n e b = go (ltb (length xs) n) refl
    where
      go : (q : Bool) → ltb (length xs) n ≡ q → has k (take n xs) ≡ has k (take n (xs ++ (x ∷ [])))
      go false f = sym (front k n (ltb-false (length xs) n f))
      go true f = ap (has k) (take_all n xs (omega (arith, ltb-true (length xs) n f)))
          ∙ sym (whole k n (ltb-true (length xs) n f) ∙ (ap (λ (c : Bool). has k xs || c) e ∙ or_no (has k xs)))

  -- is it marked already?
  pub marked : (b : Bool) → b ≡ has x (take 255 xs) → has x xs ≡ b
  marked b e = sym (e ∙ ap (has x) (take_all 255 xs (omega arith)))

  pub marked_stays : has x xs ≡ true → Marks (xs ++ (x ∷ [])) ms
  marked_stays e = record { size = M.size; told = λ k n h b. M.told k n h b ∙ same k n b (eqb k x) refl }
    where
      same : (k n : ℕ) → n ≤ 255 → (q : Bool) → eqb k x ≡ q → has k (take n xs) ≡ has k (take n (xs ++ (x ∷ [])))
      same k n b false f = other k n f b
      same k n b true f = go (ltb (length xs) n) refl
        where
          yes : has k xs ≡ true
          yes = ap (λ (j : ℕ). has j xs) (eqb-true k x f) ∙ e

          go : (q : Bool) → ltb (length xs) n ≡ q → has k (take n xs) ≡ has k (take n (xs ++ (x ∷ [])))
          go false g = sym (front k n (ltb-false (length xs) n g))
          go true g = ap (has k) (take_all n xs (omega (arith, ltb-true (length xs) n g)))
              ∙ (yes ∙ sym (whole k n (ltb-true (length xs) n g) ∙ ap (λ (c : Bool). c || (k == x)) yes))

  marked_now : has x xs ≡ false → Marks (xs ++ (x ∷ [])) (set ms x (length xs))
  marked_now e = record { size = length-set ms x (length xs) ∙ M.size; told = λ k n h b. tells k n h b (eqb k x) refl }
    where
      far : 255 ≤ get_or ms x 0
      far = ltb-false (get_or ms x 0) 255 (M.told x 255 named (omega arith) ∙ (ap (has x) (take_all 255 xs (omega arith)) ∙ e))

      here : get_or (set ms x (length xs)) x 0 ≡ length xs
      here = get_or-set_same ms x (length xs) 0 (omega (arith, M.size))

      own : (n : ℕ) → n ≤ 255 → (q : Bool) → ltb (length xs) n ≡ q → q ≡ has x (take n (xs ++ (x ∷ [])))
      own n b false f =
          sym (front x n (ltb-false (length xs) n f) ∙ (sym (M.told x n named b) ∙ le-ltb (get_or ms x 0) n (omega (arith, far))))
      own n b true f =
          sym (whole x n (ltb-true (length xs) n f) ∙ (ap (λ (c : Bool). has x xs || c) (eq-eqb x x refl) ∙ or_true (has x xs)))

      tells : (k n : ℕ) → k < 256 → n ≤ 255 → (q : Bool) → eqb k x ≡ q →
          ltb (get_or (set ms x (length xs)) k 0) n ≡ has k (take n (xs ++ (x ∷ [])))
      tells k n h b false f = ap (λ (y : ℕ). ltb y n) (get_or-set_other ms x k (length xs) 0 (eqb-false k x f))
          ∙ (M.told k n h b ∙ other k n f b)
      tells k n h b true f = rw (eqb-true k x f) (ap (λ (y : ℕ). ltb y n) here ∙ own n b (ltb (length xs) n) refl)

  -- n: its place
  pub marked_at : (n : ℕ) → length xs ≡ n → has x xs ≡ false → Marks (xs ++ (x ∷ [])) (set ms x n)
  marked_at n l e = subst (λ (k : ℕ). Marks (xs ++ (x ∷ [])) (set ms x k)) l (marked_now e)

pub marks_of : {l l' ms : List ℕ} → l ≡ l' → Marks l' ms → Marks l ms
marks_of e M = rw e M
