-- The place of the first that passes, and what the rules say by any, pull, insert, map, keep and of_thread.
-- That a store below n is a store among the first n, and that these are the array's own: take-set-lt and get_or-take of lib.Seq.
use Rattle.std.proofs.Common.{if◌then◌else◌, Some}
use Rattle.std.specs.List.{position}
use Prim.Native.Nat.{ℕ, zero, suc, ◌+◌, ◌≤◌, ◌<◌}
use mathlib.Core.Path.{◌≡◌, refl, sym, ◌∙◌, ap}
use mathlib.Core.Bool.{Bool, true, false, not, ◌||◌, true≢false}
use mathlib.Core.List.{List, [], ◌∷◌, ◌++◌, map}
use native.Mathlib.Numerals.{add-one}
use native.Mathlib.Omega.{arith}
use lib.Dec.{ltb, leb-suc-suc}
use lib.ListN.{length, take, drop, get_or, set}
use lib.Seq.{length-take-le, get_or-take, take-set-lt}
use borrow.Author.Tests.{lt-ltb, le-ltb, ltb-true, ltb-false}
use Rattle.rules.specs.Lists.{one_if, missing, pulled, any, keep, count, behind, pull, insert}
use Rattle.rules.specs.Tables.{named, of_thread}
use Rattle.rules.specs.declared.Thread.{Thread}
use Rattle.laws.proofs.Tally.{keep_none, none_count, zero_any}
use Rattle.laws.proofs.Single.{map_none}
use Rattle.memory.specs.Rows.{place}
use Rattle.memory.proofs.Listing.{position_is}

module _ {A : Type 0} (p : A → Bool) where
  -- the place, where b says whether the list's head passes
  abbrev head_or : Bool → List A → ℕ
  head_or b xs = if b then 0 else suc (place p xs)

  pub place_within : (l : List A) → place p l ≤ length l
  unfolding place
  place_within [] = omega arith
  place_within (x ∷ xs) = go (place_within xs) (p x)
    where
      go : place p xs ≤ length xs → (b : Bool) → head_or b xs ≤ suc (length xs)
      go r true = omega arith
      go r false = omega (arith, r)

  -- ---- is there one?

  pub any_place : (l : List A) → any p l ≡ ltb (place p l) (length l)
  unfolding place any
  any_place [] = refl
  any_place (x ∷ xs) = go (any_place xs) (p x)
    where
      go : any p xs ≡ ltb (place p xs) (length xs) → (b : Bool) → (b || any p xs) ≡ ltb (head_or b xs) (suc (length xs))
      go r true = sym (lt-ltb 0 (suc (length xs)) (omega arith))
      go r false = r ∙ sym (leb-suc-suc (suc (place p xs)) (length xs))

  pub any_yes : (l : List A) → place p l < length l → any p l ≡ true
  any_yes l h = any_place l ∙ lt-ltb _ _ h

  pub any_no : (l : List A) → length l ≤ place p l → any p l ≡ false
  any_no l h = any_place l ∙ le-ltb _ _ h

  pub any_here : (l : List A) → any p l ≡ true → place p l < length l
  any_here l e = ltb-true _ _ (sym (any_place l) ∙ e)

  pub any_none : (l : List A) → any p l ≡ false → length l ≤ place p l
  any_none l e = ltb-false _ _ (sym (any_place l) ∙ e)

  -- ---- the one found

  pub passes_at : (d : A) (l : List A) → place p l < length l → p (get_or l (place p l) d) ≡ true
  unfolding place
  passes_at d [] h = absurd (omega arith)
  passes_at d (x ∷ xs) h = go (passes_at d xs) (p x) refl h
    where
      go : (place p xs < length xs → p (get_or xs (place p xs) d) ≡ true) → (b : Bool) → p x ≡ b → head_or b xs < suc (length xs) →
          p (get_or (x ∷ xs) (head_or b xs) d) ≡ true
      go r true e h = e
      go r false e h = r (omega arith)

  pull_suc : (d : A) (l : List A) → place p l < length l →
      pull p l ≡ pulled (get_or l (place p l) d) (take (place p l) l ++ drop (suc (place p l)) l)
  unfolding place pull behind
  pull_suc d [] h = absurd (omega arith)
  pull_suc d (x ∷ xs) h = go (pull_suc d xs) (p x) h
    where
      go : (place p xs < length xs → pull p xs ≡ pulled (get_or xs (place p xs) d) (take (place p xs) xs ++ drop (suc (place p xs)) xs)) →
          (b : Bool) → head_or b xs < suc (length xs) →
          (if b then pulled x xs else behind x (pull p xs)) ≡ pulled (get_or (x ∷ xs) (head_or b xs) d) (take (head_or b xs) (x ∷ xs)
          ++ drop (suc (head_or b xs)) (x ∷ xs))
      go r true h = refl
      go r false h = ap (behind x) (r (omega arith))

  pub pull_at : (d : A) (l : List A) → place p l < length l →
      pull p l ≡ pulled (get_or l (place p l) d) (take (place p l) l ++ drop (place p l + 1) l)
  pull_at d l h =
      pull_suc d l h ∙ ap (λ (k : ℕ). pulled (get_or l (place p l) d) (take (place p l) l ++ drop k l)) (sym (add-one (place p l)))

  pub pull_none : (l : List A) → length l ≤ place p l → pull p l ≡ missing
  unfolding place pull behind
  pull_none [] h = refl
  pull_none (x ∷ xs) h = go (pull_none xs) (p x) h
    where
      go : (length xs ≤ place p xs → pull p xs ≡ missing) → (b : Bool) → suc (length xs) ≤ head_or b xs →
          (if b then pulled x xs else behind x (pull p xs)) ≡ missing
      go r true h = absurd (omega arith)
      go r false h = ap (behind x) (r (omega arith))

  -- ---- where none passes

  pub keep_all : (l : List A) → any p l ≡ false → keep (λ (x : A). not (p x)) l ≡ l
  unfolding any keep
  keep_all [] e = refl
  keep_all (x ∷ xs) e = go (keep_all xs) (p x) e
    where
      go : (any p xs ≡ false → keep (λ (y : A). not (p y)) xs ≡ xs) → (b : Bool) → (b || any p xs) ≡ false →
          (if not b then x ∷ keep (λ (y : A). not (p y)) xs else keep (λ (y : A). not (p y)) xs) ≡ x ∷ xs
      go r true e = absurd (true≢false e)
      go r false e = ap (λ (l : List A). x ∷ l) (r e)

  -- ---- where one passes at most

  none_here : (d : A) (l : List A) (i : ℕ) → any p l ≡ false → i < length l → p (get_or l i d) ≡ false
  unfolding any
  none_here d [] i e h = absurd (omega arith)
  none_here d (x ∷ xs) zero e h = go (p x) refl e
    where
      go : (b : Bool) → p x ≡ b → (b || any p xs) ≡ false → p x ≡ false
      go true q e = absurd (true≢false e)
      go false q e = q
  none_here d (x ∷ xs) (suc i) e h = go (λ q. none_here d xs i q (omega arith)) (p x) e
    where
      go : (any p xs ≡ false → p (get_or xs i d) ≡ false) → (b : Bool) → (b || any p xs) ≡ false → p (get_or xs i d) ≡ false
      go r true e = absurd (true≢false e)
      go r false e = r e

  some_here : (d : A) (l : List A) (i : ℕ) → i < length l → p (get_or l i d) ≡ true → any p l ≡ true
  some_here d l i h e = go (any p l) refl
    where
      go : (b : Bool) → any p l ≡ b → any p l ≡ true
      go true q = q
      go false q = absurd (true≢false (sym e ∙ none_here d l i q h))

  one_place : (d : A) (l : List A) (i : ℕ) → count p l ≤ 1 → i < length l → p (get_or l i d) ≡ true → i ≡ place p l
  unfolding place count
  one_place d [] i c h e = absurd (omega arith)
  one_place d (x ∷ xs) zero c h e = sym (ap (λ (b : Bool). head_or b xs) e)
  one_place d (x ∷ xs) (suc i) c h e = go (λ q. one_place d xs i q (omega arith) e) (λ q. none_here d xs i q (omega arith)) (p x) c
    where
      go : (count p xs ≤ 1 → i ≡ place p xs) → (any p xs ≡ false → p (get_or xs i d) ≡ false) → (b : Bool) → one_if b + count p xs ≤ 1 →
          suc i ≡ head_or b xs
      go r z true c = absurd (true≢false (sym e ∙ z (zero_any p xs (omega arith))))
      go r z false c = ap suc (r (omega arith))

  pub map_one : (f : A → A) (d : A) (l : List A) → count p l ≤ 1 → place p l < length l →
      map (λ (x : A). if p x then f x else x) l ≡ set l (place p l) (f (get_or l (place p l) d))
  unfolding place count
  map_one f d [] c h = absurd (omega arith)
  map_one f d (x ∷ xs) c h = go (map_one f d xs) (p x) c h
    where
      go : (count p xs ≤ 1 → place p xs < length xs →
          map (λ (y : A). if p y then f y else y) xs ≡ set xs (place p xs) (f (get_or xs (place p xs) d))) → (b : Bool) →
          one_if b + count p xs ≤ 1 → head_or b xs < suc (length xs) → (if b then f x else x)
          ∷ map (λ (y : A). if p y then f y else y) xs ≡ set (x ∷ xs) (head_or b xs) (f (get_or (x ∷ xs) (head_or b xs) d))
      go r true c h = ap (λ (l : List A). f x ∷ l) (map_none p f xs (zero_any p xs (omega arith)))
      go r false c h = ap (λ (l : List A). x ∷ l) (r (omega arith) (omega arith))

  pub keep_one : (d : A) (l : List A) → count p l ≤ 1 → place p l < length l → keep p l ≡ get_or l (place p l) d ∷ []
  unfolding place count keep
  keep_one d [] c h = absurd (omega arith)
  keep_one d (x ∷ xs) c h = go (keep_one d xs) (p x) c h
    where
      go : (count p xs ≤ 1 → place p xs < length xs → keep p xs ≡ get_or xs (place p xs) d ∷ []) → (b : Bool) → one_if b + count p xs ≤ 1 →
          head_or b xs < suc (length xs) → (if b then x ∷ keep p xs else keep p xs) ≡ get_or (x ∷ xs) (head_or b xs) d ∷ []
      go r true c h = ap (λ (l : List A). x ∷ l) (keep_none p xs (omega arith))
      go r false c h = r (omega arith) (omega arith)

-- ---- into its place
module _ {A : Type 0} (p q : A → Bool) (flip : (x : A) → q x ≡ not (p x)) where
  pub insert_at : (a : A) (l : List A) → insert p a l ≡ take (place q l) l ++ a ∷ drop (place q l) l
  unfolding place insert
  insert_at a [] = refl
  insert_at a (x ∷ xs) = go (insert_at a xs) (p x) (q x) (flip x)
    where
      go : (insert p a xs ≡ take (place q xs) xs ++ a ∷ drop (place q xs) xs) → (b c : Bool) → c ≡ not b →
          (if b then x ∷ insert p a xs else a ∷ x ∷ xs) ≡ take (if c then 0 else suc (place q xs)) (x ∷ xs) ++ a
          ∷ drop (if c then 0 else suc (place q xs)) (x ∷ xs)
      go r true c e = rw e (ap (λ (l : List A). x ∷ l) r)
      go r false c e = rw e

-- ---- a thread's own

module _ {B : Type 0} (other : B) (f : Thread → B) (n : ℕ) where
  pub thread_at : (d : Thread) (ts : List Thread) → place (named n) ts < length ts →
      of_thread other f n ts ≡ f (get_or ts (place (named n) ts) d)
  unfolding place of_thread
  thread_at d [] h = absurd (omega arith)
  thread_at d (t ∷ ts) h = go (thread_at d ts) (named n t) h
    where
      go : (place (named n) ts < length ts → of_thread other f n ts ≡ f (get_or ts (place (named n) ts) d)) → (b : Bool) →
          head_or (named n) b ts < suc (length ts) →
          (if b then f t else of_thread other f n ts) ≡ f (get_or (t ∷ ts) (head_or (named n) b ts) d)
      go r true h = refl
      go r false h = r (omega arith)

  pub thread_none : (ts : List Thread) → length ts ≤ place (named n) ts → of_thread other f n ts ≡ other
  unfolding place of_thread
  thread_none [] h = refl
  thread_none (t ∷ ts) h = go (thread_none ts) (named n t) h
    where
      go : (length ts ≤ place (named n) ts → of_thread other f n ts ≡ other) → (b : Bool) → suc (length ts) ≤ head_or (named n) b ts →
          (if b then f t else of_thread other f n ts) ≡ other
      go r true h = absurd (omega arith)
      go r false h = r (omega arith)

-- ---- the same of an array's first n entries, where a loop found the place i
module _ {A : Type 0} (p : A → Bool) (n : ℕ) (r : List A) (i : ℕ) (whole : n ≤ length r) (found : i ≡ place p (take n r)) where
  here : i < n → place p (take n r) < length (take n r)
  here h = omega (arith, length-take-le n r whole)

  nowhere : n ≤ i → length (take n r) ≤ place p (take n r)
  nowhere h = omega (arith, length-take-le n r whole)

  there : (d : A) → i < n → get_or (take n r) (place p (take n r)) d ≡ get_or r i d
  there d h = ap (λ (k : ℕ). get_or (take n r) k d) (sym found) ∙ get_or-take n r i d h

  pub found_within : i ≤ n
  found_within = omega (arith, length-take-le n r whole, place_within p (take n r))

  pub found_passes : (d : A) → i < n → p (get_or r i d) ≡ true
  found_passes d h = ap p (sym (there d h)) ∙ passes_at p d (take n r) (here h)

  pub found_any : i < n → any p (take n r) ≡ true
  found_any h = any_yes p (take n r) (here h)

  pub no_any : n ≤ i → any p (take n r) ≡ false
  no_any h = any_no p (take n r) (nowhere h)

  pub is_found : any p (take n r) ≡ true → i < n
  is_found e = omega (arith, length-take-le n r whole, any_here p (take n r) e)

  pub not_found : any p (take n r) ≡ false → n ≤ i
  not_found e = omega (arith, length-take-le n r whole, any_none p (take n r) e)

  pub found_pull : (d : A) → i < n → pull p (take n r) ≡ pulled (get_or r i d) (take i (take n r) ++ drop (i + 1) (take n r))
  found_pull d h =
      pull_at p d (take n r) (here h)
      ∙ (ap (λ (x : A). pulled x (take (place p (take n r)) (take n r) ++ drop (place p (take n r) + 1) (take n r))) (there d h)
      ∙ ap (λ (k : ℕ). pulled (get_or r i d) (take k (take n r) ++ drop (k + 1) (take n r))) (sym found))

  pub no_pull : n ≤ i → pull p (take n r) ≡ missing
  no_pull h = pull_none p (take n r) (nowhere h)

  pub found_map : (f : A → A) (d : A) → count p (take n r) ≤ 1 → i < n →
      map (λ (x : A). if p x then f x else x) (take n r) ≡ take n (set r i (f (get_or r i d)))
  found_map f d c h =
      map_one p f d (take n r) c (here h)
      ∙ (ap (λ (x : A). set (take n r) (place p (take n r)) (f x)) (there d h)
      ∙ (ap (λ (k : ℕ). set (take n r) k (f (get_or r i d))) (sym found) ∙ sym (take-set-lt n r i (f (get_or r i d)) h)))

  pub no_map : (f : A → A) → n ≤ i → map (λ (x : A). if p x then f x else x) (take n r) ≡ take n r
  no_map f h = map_none p f (take n r) (no_any h)

  pub found_keep : (d : A) → count p (take n r) ≤ 1 → i < n → keep p (take n r) ≡ get_or r i d ∷ []
  found_keep d c h = keep_one p d (take n r) c (here h) ∙ ap (λ (x : A). x ∷ []) (there d h)

  pub no_keep : n ≤ i → keep p (take n r) ≡ []
  no_keep h = keep_none p (take n r) (none_count p (take n r) (no_any h))

  pub all_kept : n ≤ i → keep (λ (x : A). not (p x)) (take n r) ≡ take n r
  all_kept h = keep_all p (take n r) (no_any h)

-- where a hint names a place, and one that passes stands there
module _ {A : Type 0} (p : A → Bool) (n : ℕ) (r : List A) (i : ℕ) (d : A) (whole : n ≤ length r) (low : i < n)
    (passes : p (get_or r i d) ≡ true) where
  in_range : i < length (take n r)
  in_range = omega (arith, length-take-le n r whole)

  is_there : p (get_or (take n r) i d) ≡ true
  is_there = ap p (get_or-take n r i d low) ∙ passes

  pub hint_place : count p (take n r) ≤ 1 → i ≡ place p (take n r)
  hint_place c = one_place p d (take n r) i c in_range is_there

  pub at_hint : count p (take n r) ≤ 1 → Some i ≡ position p (take n r)
  at_hint c = let e = hint_place c in
      sym (position_is p (take n r) ∙ rw (← e, lt-ltb i (length (take n r)) in_range) refl)

  pub hint_any : any p (take n r) ≡ true
  hint_any = some_here p d (take n r) i in_range is_there

module _ {A : Type 0} (p q : A → Bool) (flip : (x : A) → q x ≡ not (p x)) (n : ℕ) (r : List A) (i : ℕ) (found : i ≡ place q (take n r))
  where
    pub found_insert : (a : A) → insert p a (take n r) ≡ take i (take n r) ++ a ∷ drop i (take n r)
    found_insert a = insert_at p q flip a (take n r) ∙ ap (λ (k : ℕ). take k (take n r) ++ a ∷ drop k (take n r)) (sym found)

module _ {B : Type 0} (other : B) (f : Thread → B) (k n : ℕ) (r : List Thread) (i : ℕ) (whole : n ≤ length r)
    (found : i ≡ place (named k) (take n r)) where
  pub found_thread : (d : Thread) → i < n → of_thread other f k (take n r) ≡ f (get_or r i d)
  found_thread d h = thread_at other f k d (take n r) (here (named k) n r i whole found h) ∙ ap f (there (named k) n r i whole found d h)

  pub no_such_thread : n ≤ i → of_thread other f k (take n r) ≡ other
  no_such_thread h = thread_none other f k (take n r) (nowhere (named k) n r i whole found h)
