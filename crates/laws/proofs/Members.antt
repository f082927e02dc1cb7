-- Members of lists that were kept, put into or mapped; which numbers a list has; and the end of a list.
use Rattle.std.proofs.Common.{if◌then◌else◌, ◌==◌}
use Prim.Native.Nat.{ℕ, zero, suc, ◌+◌, ◌≤◌, ◌<◌}
use mathlib.Core.Path.{◌≡◌, refl, sym, ap, ap₂, ◌∙◌}
use mathlib.Core.Logic.{◌⊎◌, inl, inr, ⊎_elim}
use mathlib.Core.Bool.{Bool, true, false, false≢true}
use mathlib.Core.List.{List, [], ◌∷◌, ◌++◌, map, Memᴰ}
use native.Mathlib.Omega.{arith}
use borrow.Author.Tests.{eqb-true, eq-eqb}
use Rattle.rules.specs.Lists.{any, keep, insert, has, times_in, from_on, same}
use Rattle.laws.proofs.Tests.{by_if, same?, and_left, and_right, ◌&◌, or_cases, or_left, or_right}
use Rattle.laws.proofs.Tally.{any_count, count_any, any_append, any_member, member_any}

module _ {A : Type 0} where
  pub mem_keep : (p : A → Bool) (xs : List A) {x : A} → Memᴰ x (keep p xs) → Memᴰ x xs × (p x ≡ true)
  unfolding keep
  mem_keep p [] m = elim m [ ]
  mem_keep p (y ∷ xs) {x} m = go (p y) refl m (mem_keep p xs)
    where
      go : (b : Bool) → p y ≡ b → Memᴰ x (if b then y ∷ keep p xs else keep p xs) →
          (Memᴰ x (keep p xs) → Memᴰ x xs × (p x ≡ true)) → Memᴰ x (y ∷ xs) × (p x ≡ true)
      go true e (Memᴰ.head q) later = (Memᴰ.head q, ap p q ∙ e)
      go true e (Memᴰ.tail n) later = let r = later n in (Memᴰ.tail r.0, r.1)
      go false e n later = let r = later n in (Memᴰ.tail r.0, r.1)

  pub keep_mem : (p : A → Bool) (xs : List A) {x : A} → Memᴰ x xs → p x ≡ true → Memᴰ x (keep p xs)
  unfolding keep
  keep_mem p [] {x = x} x4 h = elim x4 [ ]
  keep_mem p (y ∷ xs) {x} (Memᴰ.head e) h = rw (ap p (sym e) ∙ h) (Memᴰ.head e)
  keep_mem p (y ∷ xs) {x} (Memᴰ.tail m) h =
      by_if (λ (l : List A). Memᴰ x l) (p y) (λ _. Memᴰ.tail (keep_mem p xs m h)) (λ _. keep_mem p xs m h)

  pub mem_insert : (p : A → Bool) (a : A) (xs : List A) {x : A} → Memᴰ x (insert p a xs) → (x ≡ a) ⊎ Memᴰ x xs
  unfolding insert
  mem_insert p a [] (Memᴰ.head e) = inl e
  mem_insert p a [] (Memᴰ.tail m) = elim m [ ]
  mem_insert p a (y ∷ xs) {x} m = go (p y) m (mem_insert p a xs)
    where
      go : (b : Bool) → Memᴰ x (if b then y ∷ insert p a xs else a ∷ y ∷ xs) →
          (Memᴰ x (insert p a xs) → (x ≡ a) ⊎ Memᴰ x xs) → (x ≡ a) ⊎ Memᴰ x (y ∷ xs)
      go true (Memᴰ.head e) later = inr (Memᴰ.head e)
      go true (Memᴰ.tail n) later = ⊎_elim inl (λ k. inr (Memᴰ.tail k)) (later n)
      go false (Memᴰ.head e) later = inl e
      go false (Memᴰ.tail n) later = inr n

  pub insert_new : (p : A → Bool) (a : A) (l : List A) → Memᴰ a (insert p a l)
  unfolding insert
  insert_new p a [] = Memᴰ.head refl
  insert_new p a (y ∷ l) = by_if (λ (r : List A). Memᴰ a r) (p y) (λ _. Memᴰ.tail (insert_new p a l)) (λ _. Memᴰ.head refl)

  pub insert_old : (p : A → Bool) (a : A) (l : List A) {x : A} → Memᴰ x l → Memᴰ x (insert p a l)
  unfolding insert
  insert_old p a [] {x = x} x3 = elim x3 [ ]
  insert_old p a (y ∷ l) {x} (Memᴰ.head e) =
      by_if (λ (r : List A). Memᴰ x r) (p y) (λ _. Memᴰ.head e) (λ _. Memᴰ.tail (Memᴰ.head e))
  insert_old p a (y ∷ l) {x} (Memᴰ.tail m) =
      by_if (λ (r : List A). Memᴰ x r) (p y) (λ _. Memᴰ.tail (insert_old p a l m)) (λ _. Memᴰ.tail (Memᴰ.tail m))

  pub mem_map : {B : Type 0} (f : A → B) (xs : List A) {y : B} → Memᴰ y (map f xs) → (x : A) × Memᴰ x xs × (y ≡ f x)
  mem_map f [] m = elim m [ ]
  mem_map f (x ∷ xs) (Memᴰ.head e) = (x, Memᴰ.head refl, e)
  mem_map f (x ∷ xs) (Memᴰ.tail m) = let r = mem_map f xs m in (r.0, Memᴰ.tail r.1, r.2)

  pub map_mem : {B : Type 0} (f : A → B) (xs : List A) {x : A} → Memᴰ x xs → Memᴰ (f x) (map f xs)
  map_mem {B = B} f [] x3 = elim x3 [ ]
  map_mem f (y ∷ xs) (Memᴰ.head e) = Memᴰ.head (ap f e)
  map_mem f (y ∷ xs) (Memᴰ.tail m) = Memᴰ.tail (map_mem f xs m)

-- what was coded and read comes back
pub map_back : {A B : Type 0} (code : A → B) (read : B → A) (xs : List A) → ((x : A) → Memᴰ x xs → read (code x) ≡ x) →
    map read (map code xs) ≡ xs
map_back code read [] h = refl
map_back code read (x ∷ xs) h =
    ap₂ (λ (y : _) (ys : List _). y ∷ ys) (h x (Memᴰ.head refl)) (map_back code read xs (λ y m. h y (Memᴰ.tail m)))

-- ---- numbers in a list

pub member_has : {x : ℕ} (l : List ℕ) → Memᴰ x l → has x l ≡ true
member_has {x} l m = member_any (λ k. x == k) l x m (eq-eqb x x refl)

pub has_member : {x : ℕ} (l : List ℕ) → has x l ≡ true → Memᴰ x l
has_member {x} l h = let r = any_member (λ k. x == k) l h in rw (eqb-true x r.0 r.2) r.1

pub member_times : (l : List ℕ) (n : ℕ) → Memᴰ n l → 1 ≤ times_in l n
member_times l n m = any_count (λ k. n == k) l (member_has l m)

pub times_member : (l : List ℕ) (n : ℕ) → 1 ≤ times_in l n → Memᴰ n l
times_member l n h = has_member l (count_any (λ k. n == k) l h)

-- is n among the numbers that f gives for those that pass?
module _ {A : Type 0} (f : A → ℕ) (j : A → Bool) (xs : List A) where
  pub kept_has : {x : A} → Memᴰ x xs → j x ≡ true → has (f x) (map f (keep j xs)) ≡ true
  kept_has {x} m h = member_has (map f (keep j xs)) (map_mem f (keep j xs) (keep_mem j xs m h))

  pub has_kept : (n : ℕ) → has n (map f (keep j xs)) ≡ true → (x : A) × Memᴰ x xs × (j x ≡ true) × (n ≡ f x)
  has_kept n h =
      let s = mem_map f (keep j xs) (has_member (map f (keep j xs)) h) in
      let k = mem_keep j xs s.1 in
      (s.0, k.0, k.1, s.2)

pub has_left : (x : ℕ) (s t : List ℕ) → has x s ≡ true → has x (s ++ t) ≡ true
has_left x s t h = any_append (λ k. x == k) s t ∙ or_left _ _ h

pub has_right : (x : ℕ) (s t : List ℕ) → has x t ≡ true → has x (s ++ t) ≡ true
has_right x s t h = any_append (λ k. x == k) s t ∙ or_right (has x s) _ h

pub has_split : (x : ℕ) (s t : List ℕ) → has x (s ++ t) ≡ true → (has x s ≡ true) ⊎ (has x t ≡ true)
has_split x s t h = or_cases (has x s) (has x t) (sym (any_append (λ k. x == k) s t) ∙ h)

pub has_any : (x : ℕ) (p : ℕ → Bool) (l : List ℕ) → has x l ≡ true → p x ≡ true → any p l ≡ true
has_any x p l h e = member_any p l x (has_member l h) e

pub from_on_mem : (a n d : ℕ) → a ≤ d → d < a + n → Memᴰ d (from_on a n)
unfolding from_on
from_on_mem a zero d l h = absurd (omega arith)
from_on_mem a (suc n) d l h = ⊎_elim (λ e. Memᴰ.head (sym e.0))
    (λ e. Memᴰ.tail (from_on_mem (suc a) n d (omega (arith, e.0)) (omega arith))) (same? a d)

-- some numbers in a row, and those behind them
pub from_on_parts : (a k l : ℕ) → from_on a (k + l) ≡ from_on a k ++ from_on (a + k) l
unfolding from_on
from_on_parts a zero l = let q : a + 0 ≡ a = omega arith in let r : 0 + l ≡ l = omega arith in rw (q, r)
from_on_parts a (suc k) l =
    let q : a + suc k ≡ suc a + k = omega arith in
    let r : suc k + l ≡ suc (k + l) = omega arith in
    rw (q, r) (ap (λ xs. a ∷ xs) (from_on_parts (suc a) k l))

-- ---- the same numbers

pub same_refl : (xs : List ℕ) → same xs xs ≡ true
unfolding same
same_refl [] = refl
same_refl (x ∷ xs) = eq-eqb x x refl & same_refl xs

pub same_true : (xs ys : List ℕ) → same xs ys ≡ true → xs ≡ ys
unfolding same
same_true [] [] h = refl
same_true [] (y ∷ ys) h = absurd (false≢true h)
same_true (x ∷ xs) [] h = absurd (false≢true h)
same_true (x ∷ xs) (y ∷ ys) h =
    ap₂ (λ (z : ℕ) (zs : List ℕ). z ∷ zs) (eqb-true x y (and_left (x == y) _ h)) (same_true xs ys (and_right (x == y) _ h))

-- ---- the end of a list

-- lists that are equal have the same end
pub last_same : {A : Type 0} (xs ys : List A) {x y : A} → xs ++ (x ∷ []) ≡ ys ++ (y ∷ []) → (xs ≡ ys) × (x ≡ y)
last_same [] [] e = (refl, cc)
last_same [] (z ∷ []) e = let k : ◌≡◌ {A = ℕ} 0 1 = cc in absurd (omega arith)
last_same [] (z ∷ w ∷ ys) e = let k : ◌≡◌ {A = ℕ} 0 1 = cc in absurd (omega arith)
last_same (z ∷ []) [] e = let k : ◌≡◌ {A = ℕ} 0 1 = cc in absurd (omega arith)
last_same (z ∷ w ∷ xs) [] e = let k : ◌≡◌ {A = ℕ} 0 1 = cc in absurd (omega arith)
last_same (z ∷ xs) (w ∷ ys) {x} {y} e =
    let k : xs ++ (x ∷ []) ≡ ys ++ (y ∷ []) = cc in
    let h : z ≡ w = cc in
    let r = last_same xs ys k in
    (rw (h, r.0), r.1)

-- a list is empty or ends in an element
pub ends_in : {A : Type 0} (xs : List A) → (xs ≡ []) ⊎ ((ys : List A) × (y : A) × (xs ≡ ys ++ (y ∷ [])))
ends_in [] = inl refl
ends_in (x ∷ xs) = inr (⊎_elim (λ e. ([], x, ap (λ l. x ∷ l) e)) (λ r. (x ∷ r.0, r.1, ap (λ l. x ∷ l) r.2)) (ends_in xs))
