-- The rules' words on lists are the library's.
use Rattle.std.proofs.Common.{◌≡◌, ℕ, suc, ◌<◌, ◌≤◌, ltb, ◌+◌, Bool, true, false, List, [], ◌∷◌, length, cond, ◌||◌, ◌&&◌, filter, refl, ap, sym, ◌∙◌, arith, if◌then◌else◌, Option, Some, None}
use Rattle.std.specs.List.{list_all, list_any, position_or_len, position}
use Rattle.std.specs.Option.{unwrap_or, is_some}
use borrow.Author.Tests.{ltb-true, ltb-false}
use Rattle.std.proofs.lemmas.List.Recursion.{is_position_or_len}
use Rattle.rules.specs.Lists.{all, any, keep, count, one_if}
use Rattle.memory.specs.Rows.{place}

pub is_none : {A : Type 0} {o : Option A} → ((x : A) → o ≡ Some x → ⊥) → o ≡ None
is_none {o = None} h = refl
is_none {o = Some x} h = absurd (h x refl)

pub some_if : (b : Bool) (k : ℕ) → is_some (cond b (Some k) None) ≡ b
some_if true k = refl
some_if false k = refl

module _ {A : Type 0} (p : A → Bool) where
  pub all_is : (xs : List A) → list_all p xs ≡ all p xs
  unfolding all
  all_is [] = refl
  all_is (x ∷ xs) = ap (λ (b : Bool). p x && b) (all_is xs)

  pub any_is : (xs : List A) → list_any p xs ≡ any p xs
  unfolding any
  any_is [] = refl
  any_is (x ∷ xs) = ap (λ (b : Bool). p x || b) (any_is xs)

  pub keep_is : (xs : List A) → filter p xs ≡ keep p xs
  unfolding keep
  keep_is [] = refl
  keep_is (x ∷ xs) = ap (λ (l : List A). cond (p x) (x ∷ l) l) (keep_is xs)

  one_more : (b : Bool) (x : A) (l : List A) → length (cond b (x ∷ l) l) ≡ one_if b + length l
  one_more true x l = omega arith
  one_more false x l = omega arith

  pub count_is : (xs : List A) → length (filter p xs) ≡ count p xs
  unfolding count
  count_is [] = refl
  count_is (x ∷ xs) = one_more (p x) x (filter p xs) ∙ ap (λ (k : ℕ). one_if (p x) + k) (count_is xs)

  pub place_is : (xs : List A) → place p xs ≡ position_or_len p xs
  unfolding place
  place_is xs = is_position_or_len (place p) p refl (λ x l. ap (λ (k : ℕ). if p x then 0 else k) (omega arith)) xs

  -- the place of one that passes, if one does
  pub position_is : (xs : List A) → position p xs ≡ cond (ltb (place p xs) (length xs)) (Some (place p xs)) None
  position_is xs = rw (place_is xs) refl

  pub found : (i : ℕ) (xs : List A) → position p xs ≡ Some i → (i ≡ place p xs) × (i < length xs)
  found i xs e = go (ltb (place p xs) (length xs)) refl (sym (position_is xs) ∙ e)
    where
      go : (b : Bool) → ltb (place p xs) (length xs) ≡ b → cond b (Some (place p xs)) None ≡ Some i → (i ≡ place p xs) × (i < length xs)
      go true t h = let s : i ≡ place p xs = cc in (s, omega (arith, ltb-true (place p xs) (length xs) t))
      go false t h = cc

  pub nowhere : (xs : List A) → position p xs ≡ None → length xs ≤ place p xs
  nowhere xs e = go (ltb (place p xs) (length xs)) refl (sym (position_is xs) ∙ e)
    where
      go : (b : Bool) → ltb (place p xs) (length xs) ≡ b → cond b (Some (place p xs)) None ≡ None → length xs ≤ place p xs
      go true t h = cc
      go false t h = ltb-false (place p xs) (length xs) t

  -- or how many there are
  pub place_or_all : (xs : List A) → place p xs ≤ length xs → unwrap_or (position p xs) (length xs) ≡ place p xs
  place_or_all xs h = rw (position_is xs) (go (ltb (place p xs) (length xs)) refl)
    where
      go : (b : Bool) → ltb (place p xs) (length xs) ≡ b → unwrap_or (cond b (Some (place p xs)) None) (length xs) ≡ place p xs
      go true t = refl
      go false t = omega (arith, ltb-false (place p xs) (length xs) t)
