-- Lists in order: chains, fewer elements in the same order, and lists whose keys rise.
use Rattle.std.proofs.Common.{◌==◌}
use Prim.Native.Nat.{ℕ, suc, ◌+◌, ◌≤◌, ◌<◌}
use mathlib.Core.Path.{◌≡◌, refl, ap, ap₂, ◌∙◌}
use mathlib.Core.Logic.{⊎_elim, ◌≢◌}
use mathlib.Core.Bool.{Bool, true, false, ◌&&◌}
use mathlib.Core.List.{List, [], ◌∷◌, map, Memᴰ}
use native.Mathlib.Omega.{arith}
use lib.Dec.{ltb}
use lib.ListN.{length}
use borrow.Author.Tests.{ltb-true, ltb-false, lt-ltb, ne_eqb}
use Rattle.rules.specs.Lists.{one_if, Pulled, missing, pulled, any, keep, count, behind, pull, insert, chain}
use Rattle.laws.proofs.Tests.{by_if, same?, and_left, and_right, ◌&◌}
use Rattle.laws.proofs.Tally.{count_cons, count_keep_le, none_count, none_any}
use Rattle.laws.proofs.Members.{mem_keep, mem_insert}

module _ {A : Type 0} where
  -- ---- chains

  abbrev pub Transitive : (A → A → Bool) → Type 0
  Transitive r = (x y z : A) → r x y ≡ true → r y z ≡ true → r x z ≡ true

  pub chain_tail : (r : A → A → Bool) (x : A) (xs : List A) → chain r (x ∷ xs) ≡ true → chain r xs ≡ true
  unfolding chain
  chain_tail r x [] c = refl
  chain_tail r x (y ∷ xs) c = and_right (r x y) _ c

  pub chain_before : (r : A → A → Bool) → Transitive r → (x : A) (xs : List A) → chain r (x ∷ xs) ≡ true → (y : A) → Memᴰ y xs →
      r x y ≡ true
  unfolding chain
  chain_before r t x [] c y x4 = elim x4 [ ]
  chain_before r t x (z ∷ xs) c y (Memᴰ.head e) = ap (r x) e ∙ and_left (r x z) _ c
  chain_before r t x (z ∷ xs) c y (Memᴰ.tail m) = t x z y (and_left (r x z) _ c) (chain_before r t z xs (and_right (r x z) _ c) y m)

  pub chain_cons : (r : A → A → Bool) (x : A) (xs : List A) → ((y : A) → Memᴰ y xs → r x y ≡ true) → chain r xs ≡ true →
      chain r (x ∷ xs) ≡ true
  unfolding chain
  chain_cons r x [] h c = refl
  chain_cons r x (y ∷ xs) h c = h y (Memᴰ.head refl) & c

  pub chain_keep : (q : A → Bool) (r : A → A → Bool) → Transitive r → (xs : List A) → chain r xs ≡ true → chain r (keep q xs) ≡ true
  unfolding keep
  chain_keep q r t [] c = c
  chain_keep q r t (x ∷ xs) c =
      let later = chain_keep q r t xs (chain_tail r x xs c) in
      by_if (λ (l : List A). chain r l ≡ true) (q x)
      (λ e. chain_cons r x (keep q xs) (λ y m. chain_before r t x xs c y (mem_keep q xs m).0) later)
      (λ e. later)

  pub chain_map : (r : A → A → Bool) (f : A → A) → ((x y : A) → r (f x) (f y) ≡ r x y) → (xs : List A) → chain r (map f xs) ≡ chain r xs
  unfolding chain
  chain_map r f h [] = refl
  chain_map r f h (x ∷ []) = refl
  chain_map r f h (x ∷ y ∷ xs) = ap₂ (λ (a b : Bool). a && b) (h x y) (chain_map r f h (y ∷ xs))

  -- an element put behind those that may stand before it, where it may stand before the others
  pub chain_insert : (r : A → A → Bool) → Transitive r → (a : A) (xs : List A) → ((x : A) → Memᴰ x xs → r x a ≡ false → r a x ≡ true) →
      chain r xs ≡ true → chain r (insert (λ x. r x a) a xs) ≡ true
  unfolding insert
  chain_insert r t a [] d c = unfold chain in refl
  chain_insert r t a (x ∷ xs) d c =
      by_if (λ (l : List A). chain r l ≡ true) (r x a)
      (λ e. chain_cons r x _ (λ y m. ⊎_elim (λ i. ap (r x) i ∙ e) (λ i. chain_before r t x xs c y i) (mem_insert (λ z. r z a) a xs m))
      (chain_insert r t a xs (λ y m. d y (Memᴰ.tail m)) (chain_tail r x xs c)))
      (λ e. unfold chain in d x (Memᴰ.head refl) e & c)

  -- ---- fewer elements, in the same order

  pub record Less (xs ys : List A) : Type 0 where
    pub member : (x : A) → Memᴰ x ys → Memᴰ x xs
    pub counts : (p : A → Bool) → count p ys ≤ count p xs
    pub ordered : (r : A → A → Bool) → Transitive r → chain r xs ≡ true → chain r ys ≡ true

  pub less_refl : (xs : List A) → Less xs xs
  less_refl xs = record { member = λ x m. m; counts = λ p. omega arith; ordered = λ r t c. c }

  pub keep_less : (q : A → Bool) (xs : List A) → Less xs (keep q xs)
  keep_less q xs =
      record { member = λ x m. (mem_keep q xs m).0; counts = λ p. count_keep_le p q xs; ordered = λ r t c. chain_keep q r t xs c }

  -- what a search took out, and what it left
  pub record Took (p : A → Bool) (xs : List A) (x : A) (ys : List A) : Type 0 where
    pub passes : p x ≡ true
    pub from : Memᴰ x xs
    pub each : (q : A → Bool) → count q xs ≡ one_if (q x) + count q ys
    pub less : Less xs ys

  unfoldable pub Pulls : (A → Bool) → List A → Pulled A → Type 0
  Pulls p xs missing = any p xs ≡ false
  Pulls p xs (pulled x ys) = Took p xs x ys

  behind_pulls : (p : A → Bool) (x : A) (xs : List A) → p x ≡ false → (r : Pulled A) → Pulls p xs r → Pulls p (x ∷ xs) (behind x r)
  unfolding Pulls behind any
  behind_pulls p x xs e missing h = rw e h
  behind_pulls p x xs e (pulled y ys) h = record {
    passes = h.passes;
    from = Memᴰ.tail h.from;
    each = λ q. omega (arith, h.each q, count_cons q x xs, count_cons q x ys);
    less = record {
      member = λ z m. there z m;
      counts = λ q. omega (arith, h.less.counts q, count_cons q x xs, count_cons q x ys);
      ordered =
          λ r t c. chain_cons r x ys (λ z m. chain_before r t x xs c z (h.less.member z m)) (h.less.ordered r t (chain_tail r x xs c));
    };
  }
    where
      there : (z : A) → Memᴰ z (x ∷ ys) → Memᴰ z (x ∷ xs)
      there z (Memᴰ.head i) = Memᴰ.head i
      there z (Memᴰ.tail m) = Memᴰ.tail (h.less.member z m)

  pub pull_pulls : (p : A → Bool) (xs : List A) → Pulls p xs (pull p xs)
  unfolding pull
  pull_pulls p [] = unfold Pulls any in refl
  pull_pulls p (x ∷ xs) =
      by_if (Pulls p (x ∷ xs)) (p x)
      (λ e. unfold Pulls in
      record {
        passes = e;
        from = Memᴰ.head refl;
        each = λ q. count_cons q x xs;
        less = record {
          member = λ z m. Memᴰ.tail m;
          counts = λ q. omega (arith, count_cons q x xs);
          ordered = λ r t c. chain_tail r x xs c;
        };
      })
      (λ e. behind_pulls p x xs e (pull p xs) (pull_pulls p xs))

  pub pull_none : (p : A → Bool) (xs : List A) → pull p xs ≡ missing → any p xs ≡ false
  pull_none p xs e = unfold Pulls in rw e at (pull_pulls p xs)

  pub pull_took : (p : A → Bool) (xs : List A) {x : A} {ys : List A} → pull p xs ≡ pulled x ys → Took p xs x ys
  pull_took p xs e = unfold Pulls in rw e at (pull_pulls p xs)

-- ---- keys that rise

module _ {A : Type 0} (key : A → ℕ) where
  abbrev pub up : A → A → Bool
  up x y = ltb (key x) (key y)

  pub up_trans : Transitive up
  up_trans x y z e f = lt-ltb (key x) (key z) (omega (arith, ltb-true (key x) (key y) e, ltb-true (key y) (key z) f))

  pub up_below : (x : A) (xs : List A) → chain up (x ∷ xs) ≡ true → (y : A) → Memᴰ y xs → key x < key y
  up_below x xs c y m = ltb-true (key x) (key y) (chain_before up up_trans x xs c y m)

  pub up_less : {xs ys : List A} → Less xs ys → chain up xs ≡ true → chain up ys ≡ true
  up_less l c = l.ordered up up_trans c

  pub up_map : (f : A → A) → ((x : A) → key (f x) ≡ key x) → (xs : List A) → chain up xs ≡ true → chain up (map f xs) ≡ true
  up_map f h xs c = chain_map up f (λ x y. ap₂ ltb (h x) (h y)) xs ∙ c

  pub up_insert : (a : A) (xs : List A) → ((x : A) → Memᴰ x xs → key x ≢ key a) → chain up xs ≡ true →
      chain up (insert (λ x. up x a) a xs) ≡ true
  up_insert a xs d c = chain_insert up up_trans a xs (λ x m e. lt-ltb (key a) (key x) (omega (arith, ltb-false (key x) (key a) e, d x m))) c

  -- they are distinct
  pub up_once : (n : ℕ) (xs : List A) → chain up xs ≡ true → count (λ x. n == key x) xs ≤ 1
  unfolding count
  up_once n [] c = omega arith
  up_once n (x ∷ xs) c =
      ⊎_elim
      (λ e. rw e.1
      (omega (
        arith,
        none_count (λ y. n == key y) xs
            (none_any (λ y. n == key y) xs (λ y m. ne_eqb n (key y) (λ k. omega (arith, up_below x xs c y m, e.0)))),
      )))
      (λ e. rw e.1 (omega (arith, up_once n xs (chain_tail up x xs c))))
      (same? n (key x))

  -- from k on and below n there are at most n - k
  pub up_few : (k n : ℕ) (xs : List A) → k ≤ n → chain up xs ≡ true → ((x : A) → Memᴰ x xs → (k ≤ key x) × (key x < n)) →
      k + length xs ≤ n
  up_few k n [] l c h = omega arith
  up_few k n (x ∷ xs) l c h =
      let b = h x (Memᴰ.head refl) in
      omega (arith, b.0, up_few (suc (key x)) n xs b.1 (chain_tail up x xs c) (λ y m. (up_below x xs c y m, (h y (Memᴰ.tail m)).1)))
