-- How many pass, whether any or all do, under every change of a list that the rules make. One law over any list each.
use Rattle.std.proofs.Common.{if◌then◌else◌}
use Prim.Native.Nat.{ℕ, zero, suc, ◌+◌, ◌*◌, ◌≤◌, ◌<◌}
use mathlib.Core.Path.{◌≡◌, refl, sym, ap, ap₂, ◌∙◌}
use mathlib.Core.Bool.{Bool, true, false, ◌&&◌, ◌||◌, not, true≢false, false≢true}
use mathlib.Core.List.{List, [], ◌∷◌, ◌++◌, map, append_assoc, Memᴰ}
use native.Mathlib.Omega.{arith}
use lib.ListN.{length, length-append, drop}
use Rattle.rules.specs.Lists.{one_if, all, any, keep, count, insert, each}
use Rattle.laws.proofs.Tests.{by_if, clash, and_left, and_right, ◌&◌, and_true, and_false, or_left, or_right, one_at_most, one_less}
use Rattle.laws.proofs.Tests.{one_kind}

module _ {A : Type 0} where
  -- ---- counts

  pub count_cons : (p : A → Bool) (x : A) (xs : List A) → count p (x ∷ xs) ≡ one_if (p x) + count p xs
  unfolding count
  count_cons p x xs = refl

  pub count_append : (p : A → Bool) (s t : List A) → count p (s ++ t) ≡ count p s + count p t
  unfolding count
  count_append p [] t = omega arith
  count_append p (x ∷ s) t = omega (arith, count_append p s t)

  pub count_map : {B : Type 0} (p : A → Bool) (f : B → A) (xs : List B) → count p (map f xs) ≡ count (λ x. p (f x)) xs
  unfolding count
  count_map p f [] = refl
  count_map p f (x ∷ xs) = ap (λ (n : ℕ). one_if (p (f x)) + n) (count_map p f xs)

  pub count_add : (p q r : A → Bool) (xs : List A) → ((x : A) → one_if (p x) ≡ one_if (q x) + one_if (r x)) →
      count p xs ≡ count q xs + count r xs
  unfolding count
  count_add p q r [] h = refl
  count_add p q r (x ∷ xs) h = omega (arith, h x, count_add p q r xs h)

  pub count_le_add : (p q r : A → Bool) (xs : List A) → ((x : A) → one_if (p x) ≤ one_if (q x) + one_if (r x)) →
      count p xs ≤ count q xs + count r xs
  unfolding count
  count_le_add p q r [] h = omega arith
  count_le_add p q r (x ∷ xs) h = omega (arith, h x, count_le_add p q r xs h)

  pub count_add_le : (p r q : A → Bool) (xs : List A) → ((x : A) → Memᴰ x xs → one_if (p x) + one_if (r x) ≤ one_if (q x)) →
      count p xs + count r xs ≤ count q xs
  unfolding count
  count_add_le p r q [] h = omega arith
  count_add_le p r q (x ∷ xs) h = omega (arith, h x (Memᴰ.head refl), count_add_le p r q xs (λ y m. h y (Memᴰ.tail m)))

  pub count_same : (p q : A → Bool) (xs : List A) → ((x : A) → p x ≡ q x) → count p xs ≡ count q xs
  unfolding count
  count_same p q [] h = refl
  count_same p q (x ∷ xs) h = ap₂ (λ (b : Bool) (n : ℕ). one_if b + n) (h x) (count_same p q xs h)

  pub count_zero : (p : A → Bool) (xs : List A) → ((x : A) → p x ≡ false) → count p xs ≡ 0
  unfolding count
  count_zero p [] h = refl
  count_zero p (x ∷ xs) h = rw (h x) (omega (arith, count_zero p xs h))

  pub count_less : (p q : A → Bool) (xs : List A) → ((x : A) → p x ≡ true → q x ≡ true) → count p xs ≤ count q xs
  unfolding count
  count_less p q [] h = omega arith
  count_less p q (x ∷ xs) h = omega (arith, count_less p q xs h, one_less (p x) (q x) (h x))

  -- one more passes
  pub count_strict : (p q : A → Bool) (xs : List A) → ((x : A) → p x ≡ true → q x ≡ true) → (x : A) → Memᴰ x xs → p x ≡ false →
      q x ≡ true → count p xs < count q xs
  unfolding count
  count_strict p q [] h x x6 a b = elim x6 [ ]
  count_strict p q (y ∷ xs) h x (Memᴰ.head e) a b =
      omega (arith, count_less p q xs h, ap one_if (ap p (sym e) ∙ a), ap one_if (ap q (sym e) ∙ b))
  count_strict p q (y ∷ xs) h x (Memᴰ.tail m) a b = omega (arith, count_strict p q xs h x m a b, one_less (p y) (q y) (h y))

  pub count_length : (p : A → Bool) (xs : List A) → count p xs ≤ length xs
  unfolding count
  count_length p [] = omega arith
  count_length p (x ∷ xs) = omega (arith, count_length p xs, one_at_most (p x))

  pub length_count : (xs : List A) → length xs ≡ count (λ x. true) xs
  unfolding count
  length_count [] = refl
  length_count (x ∷ xs) = omega (arith, length_count xs)

  -- those that pass and those that do not are all
  pub count_not : (p : A → Bool) (xs : List A) → count p xs + count (λ x. not (p x)) xs ≡ length xs
  unfolding count
  count_not p [] = refl
  count_not p (x ∷ xs) = omega (arith, count_not p xs, one_kind (p x))

  pub count_insert : (p q : A → Bool) (a : A) (xs : List A) → count p (insert q a xs) ≡ one_if (p a) + count p xs
  unfolding count insert
  count_insert p q a [] = refl
  count_insert p q a (x ∷ xs) =
      by_if (λ (l : List A). count p l ≡ one_if (p a) + count p (x ∷ xs)) (q x) (λ e. omega (arith, count_insert p q a xs))
      (λ e. omega arith)

  pub count_keep : (p k : A → Bool) (xs : List A) → count p (keep k xs) ≡ count (λ x. k x && p x) xs
  unfolding count keep
  count_keep p k [] = refl
  count_keep p k (x ∷ xs) =
      by_if (λ (l : List A). count p l ≡ count (λ y. k y && p y) (x ∷ xs)) (k x)
      (λ e. rw e (ap (λ (n : ℕ). one_if (p x) + n) (count_keep p k xs)))
      (λ e. rw e (count_keep p k xs ∙ omega arith))

  pub count_keep_le : (p k : A → Bool) (xs : List A) → count p (keep k xs) ≤ count p xs
  count_keep_le p k xs = omega (arith, count_keep p k xs, count_less (λ x. k x && p x) p xs (λ x e. and_right (k x) (p x) e))

  pub length_keep : (p : A → Bool) (xs : List A) → length (keep p xs) ≡ count p xs
  length_keep p xs = length_count (keep p xs) ∙ count_keep _ p xs ∙ count_same _ _ xs (λ x. and_true (p x))

  pub keep_none : (j : A → Bool) (xs : List A) → count j xs ≡ 0 → keep j xs ≡ []
  unfolding count keep
  keep_none j [] h = refl
  keep_none j (x ∷ xs) h = go (keep_none j xs) (j x) h
    where
      go : (count j xs ≡ 0 → keep j xs ≡ []) → (b : Bool) → one_if b + count j xs ≡ 0 → (if b then x ∷ keep j xs else keep j xs) ≡ []
      go later true e = absurd (omega arith)
      go later false e = later (omega arith)

  -- ---- any, and counts

  pub any_count : (p : A → Bool) (xs : List A) → any p xs ≡ true → 1 ≤ count p xs
  unfolding any count
  any_count p [] h = absurd (false≢true h)
  any_count p (x ∷ xs) h = go (p x) h (any_count p xs)
    where
      go : (b : Bool) → (b || any p xs) ≡ true → (any p xs ≡ true → 1 ≤ count p xs) → 1 ≤ one_if b + count p xs
      go true e later = omega arith
      go false e later = omega (arith, later e)

  pub count_any : (p : A → Bool) (xs : List A) → 1 ≤ count p xs → any p xs ≡ true
  unfolding any count
  count_any p [] h = absurd (omega arith)
  count_any p (x ∷ xs) h = go (p x) h (count_any p xs)
    where
      go : (b : Bool) → 1 ≤ one_if b + count p xs → (1 ≤ count p xs → any p xs ≡ true) → (b || any p xs) ≡ true
      go true k later = refl
      go false k later = later (omega arith)

  pub none_count : (p : A → Bool) (xs : List A) → any p xs ≡ false → count p xs ≡ 0
  unfolding any count
  none_count p [] h = refl
  none_count p (x ∷ xs) h = go (p x) h (none_count p xs)
    where
      go : (b : Bool) → (b || any p xs) ≡ false → (any p xs ≡ false → count p xs ≡ 0) → one_if b + count p xs ≡ 0
      go true e later = absurd (true≢false e)
      go false e later = omega (arith, later e)

  pub zero_any : (p : A → Bool) (xs : List A) → count p xs ≡ 0 → any p xs ≡ false
  unfolding any count
  zero_any p [] h = refl
  zero_any p (x ∷ xs) h = go (p x) h (zero_any p xs)
    where
      go : (b : Bool) → one_if b + count p xs ≡ 0 → (count p xs ≡ 0 → any p xs ≡ false) → (b || any p xs) ≡ false
      go true e later = absurd (omega arith)
      go false e later = later (omega arith)

  -- lists with as many that pass
  pub any_counts : (p q : A → Bool) (xs ys : List A) → count p xs ≡ count q ys → any p xs ≡ any q ys
  any_counts p q xs ys e = go (any q ys) refl
    where
      go : (b : Bool) → any q ys ≡ b → any p xs ≡ b
      go true h = count_any p xs (omega (arith, any_count q ys h))
      go false h = zero_any p xs (e ∙ none_count q ys h)

  pub any_append : (p : A → Bool) (s t : List A) → any p (s ++ t) ≡ (any p s || any p t)
  unfolding any
  any_append p [] t = refl
  any_append p (x ∷ s) t = go (p x) (any_append p s t)
    where
      go : (b : Bool) → any p (s ++ t) ≡ (any p s || any p t) → (b || any p (s ++ t)) ≡ ((b || any p s) || any p t)
      go true e = refl
      go false e = e

  -- ---- members

  pub none_passes : (p : A → Bool) (xs : List A) (x : A) → count p xs ≡ 0 → Memᴰ x xs → p x ≡ false
  unfolding count
  none_passes p [] x z x4 = elim x4 [ ]
  none_passes p (y ∷ xs) x z (Memᴰ.head e) = ap p e ∙ none (p y) z
    where
      none : (b : Bool) → one_if b + count p xs ≡ 0 → b ≡ false
      none true k = absurd (omega arith)
      none false k = refl
  none_passes p (y ∷ xs) x z (Memᴰ.tail m) = none_passes p xs x (omega arith) m

  pub any_member : (p : A → Bool) (xs : List A) → any p xs ≡ true → (x : A) × Memᴰ x xs × (p x ≡ true)
  unfolding any
  any_member p [] h = absurd (false≢true h)
  any_member p (x ∷ xs) h = go (p x) refl h (any_member p xs)
    where
      go : (b : Bool) → p x ≡ b → (b || any p xs) ≡ true → (any p xs ≡ true → (y : A) × Memᴰ y xs × (p y ≡ true)) →
          (y : A) × Memᴰ y (x ∷ xs) × (p y ≡ true)
      go true e i later = (x, Memᴰ.head refl, e)
      go false e i later = let r = later i in (r.0, Memᴰ.tail r.1, r.2)

  pub member_any : (p : A → Bool) (xs : List A) (x : A) → Memᴰ x xs → p x ≡ true → any p xs ≡ true
  unfolding any
  member_any p [] x x4 h = elim x4 [ ]
  member_any p (y ∷ xs) x (Memᴰ.head e) h = or_left (p y) _ (ap p (sym e) ∙ h)
  member_any p (y ∷ xs) x (Memᴰ.tail m) h = or_right (p y) _ (member_any p xs x m h)

  pub not_any : (p : A → Bool) (xs : List A) (x : A) → any p xs ≡ false → Memᴰ x xs → p x ≡ false
  not_any p xs x h m = go (p x) refl
    where
      go : (b : Bool) → p x ≡ b → p x ≡ false
      go true e = absurd (clash (member_any p xs x m e) h)
      go false e = e

  pub none_any : (p : A → Bool) (xs : List A) → ((x : A) → Memᴰ x xs → p x ≡ false) → any p xs ≡ false
  unfolding any
  none_any p [] h = refl
  none_any p (x ∷ xs) h = rw (h x (Memᴰ.head refl)) (none_any p xs (λ y m. h y (Memᴰ.tail m)))

  pub any_fewer : (p : A → Bool) (xs ys : List A) → ((y : A) → Memᴰ y ys → Memᴰ y xs) → any p xs ≡ false → any p ys ≡ false
  any_fewer p xs ys h e = none_any p ys (λ y m. not_any p xs y e (h y m))

  pub all_of : (p : A → Bool) (xs : List A) → ((x : A) → Memᴰ x xs → p x ≡ true) → all p xs ≡ true
  unfolding all
  all_of p [] h = refl
  all_of p (x ∷ xs) h = h x (Memᴰ.head refl) & all_of p xs (λ y m. h y (Memᴰ.tail m))

  pub all_at : (p : A → Bool) (xs : List A) → all p xs ≡ true → (x : A) → Memᴰ x xs → p x ≡ true
  unfolding all
  all_at p [] h x x4 = elim x4 [ ]
  all_at p (y ∷ xs) h x (Memᴰ.head e) = ap p e ∙ and_left (p y) _ h
  all_at p (y ∷ xs) h x (Memᴰ.tail m) = all_at p xs (and_right (p y) _ h) x m

  pub all_both : (p : A → Bool) (xs ys : List A) → all p xs ≡ true → all p ys ≡ true → all p (xs ++ ys) ≡ true
  unfolding all
  all_both p [] ys h k = k
  all_both p (x ∷ xs) ys h k = and_left (p x) _ h & all_both p xs ys (and_right (p x) _ h) k

  pub all_drop : (n : ℕ) (p : A → Bool) (xs : List A) → all p xs ≡ true → all p (drop n xs) ≡ true
  unfolding all
  all_drop zero p xs h = h
  all_drop (suc n) p [] h = h
  all_drop (suc n) p (x ∷ xs) h = all_drop n p xs (and_right (p x) _ h)

  pub map_same : (f : A → A) (xs : List A) → ((x : A) → Memᴰ x xs → f x ≡ x) → map f xs ≡ xs
  map_same f [] h = refl
  map_same f (x ∷ xs) h = ap₂ (λ (y : A) (ys : List A). y ∷ ys) (h x (Memᴰ.head refl)) (map_same f xs (λ y m. h y (Memᴰ.tail m)))

  -- ---- of those that pass there is one at most

  -- two that pass are one
  pub only_one : (p : A → Bool) (xs : List A) → count p xs ≤ 1 → (x y : A) → Memᴰ x xs → Memᴰ y xs → p x ≡ true → p y ≡ true →
      x ≡ y
  unfolding count
  only_one p [] h x y x7 _ a b = elim x7 [ ]
  only_one p (z ∷ xs) h x y (Memᴰ.head e) (Memᴰ.head f) a b = e ∙ sym f
  only_one p (z ∷ xs) h x y (Memᴰ.head e) (Memᴰ.tail n) a b =
      let k : p z ≡ true = ap p (sym e) ∙ a in
      absurd (clash b (none_passes p xs y (omega (arith, ap one_if k)) n))
  only_one p (z ∷ xs) h x y (Memᴰ.tail m) (Memᴰ.head f) a b =
      let k : p z ≡ true = ap p (sym f) ∙ b in
      absurd (clash a (none_passes p xs x (omega (arith, ap one_if k)) m))
  only_one p (z ∷ xs) h x y (Memᴰ.tail m) (Memᴰ.tail n) a b = only_one p xs (omega arith) x y m n a b

  -- asked of the one that passes p, any says what f says of it
  pub any_only : (p f : A → Bool) (xs : List A) → count p xs ≤ 1 → (x : A) → Memᴰ x xs → p x ≡ true → any (λ y. p y && f y) xs ≡ f x
  any_only p f xs h x m a = go (f x) refl
    where
      go : (b : Bool) → f x ≡ b → any (λ y. p y && f y) xs ≡ b
      go true e = member_any (λ y. p y && f y) xs x m (a & e)
      go false e = none_any (λ y. p y && f y) xs (λ y n. each_one y n (p y) refl)
        where
          each_one : (y : A) → Memᴰ y xs → (c : Bool) → p y ≡ c → (c && f y) ≡ false
          each_one y n true i = ap f (only_one p xs h y x n m i a) ∙ e
          each_one y n false i = refl

  -- and there are as many as f says of it
  pub count_only : (p f : A → Bool) (xs : List A) → count p xs ≤ 1 → (x : A) → Memᴰ x xs → p x ≡ true →
      count (λ y. p y && f y) xs ≡ one_if (f x)
  count_only p f xs h x m a = go (f x) refl
    where
      go : (b : Bool) → f x ≡ b → count (λ y. p y && f y) xs ≡ one_if b
      go true e = omega (
        arith,
        any_count (λ y. p y && f y) xs (any_only p f xs h x m a ∙ e),
        count_less (λ y. p y && f y) p xs
            (λ y k. and_left (p y) _ k),
      )
      go false e = none_count (λ y. p y && f y) xs (any_only p f xs h x m a ∙ e)

-- ---- a list of each element, one behind the other
module _ {A B : Type 0} where
  pub each_append : (f : A → List B) (xs ys : List A) → each f (xs ++ ys) ≡ each f xs ++ each f ys
  unfolding each
  each_append f [] ys = refl
  each_append f (x ∷ xs) ys = ap (λ l. f x ++ l) (each_append f xs ys) ∙ sym (append_assoc (f x) (each f xs) (each f ys))

  pub all_each : (p : B → Bool) (f : A → List B) (xs : List A) → ((x : A) → Memᴰ x xs → all p (f x) ≡ true) → all p (each f xs) ≡ true
  unfolding all each
  all_each p f [] h = refl
  all_each p f (x ∷ xs) h = all_both p (f x) (each f xs) (h x (Memᴰ.head refl)) (all_each p f xs (λ y m. h y (Memᴰ.tail m)))

  pub length_each : (f : A → List B) (k : ℕ) (xs : List A) → ((x : A) → length (f x) ≡ k) → length (each f xs) ≡ k * length xs
  unfolding each
  length_each f k [] h = omega arith
  length_each f k (x ∷ xs) h = omega (arith, length-append (f x) (each f xs), h x, length_each f k xs h)

-- ---- without the elements whose key is out: of an out key none are left, of another as many as were
module _ {A : Type 0} (key : A → ℕ) (out : ℕ → Bool) (p : A → Bool) (n : ℕ) (keyed : (x : A) → p x ≡ true → n ≡ key x) where
  keyed_one : (x : A) → (not (out (key x)) && p x) ≡ (not (out n) && p x)
  keyed_one x = go (p x) refl
    where
      go : (b : Bool) → p x ≡ b → (not (out (key x)) && b) ≡ (not (out n) && b)
      go true e = ap (λ (k : ℕ). not (out k) && true) (sym (keyed x e))
      go false e = and_false (not (out (key x))) ∙ sym (and_false (not (out n)))

  pub none_left : out n ≡ true → (xs : List A) → count p (keep (λ x. not (out (key x))) xs) ≡ 0
  none_left o xs = count_keep p _ xs ∙ count_zero _ xs (λ x. keyed_one x ∙ rw o)

  pub all_left : out n ≡ false → (xs : List A) → count p (keep (λ x. not (out (key x))) xs) ≡ count p xs
  all_left o xs = count_keep p _ xs ∙ count_same _ _ xs (λ x. keyed_one x ∙ rw o)
