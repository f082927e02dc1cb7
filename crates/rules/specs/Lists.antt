-- Tests, lists and big-endian bytes: what the rules are written with. Nothing here is of document 01.
use Rattle.std.specs.Prelude.{ℕ, zero, suc, ◌+◌, ◌*◌, ◌/◌, ◌%◌, Bool, true, false, ◌&&◌, ◌||◌, List, [], ◌∷◌, ◌++◌, eqb, ltb, cond, ◌==◌}

-- 1 where a test holds, 0 where not
abbrev pub one_if : Bool → ℕ
one_if true = 1
one_if false = 0

-- what a search takes out of a list: the first that passes, and the list without it
pub data Pulled {ℓ} (A : Type ℓ) : Type ℓ where
  missing : Pulled A
  pulled : A → List A → Pulled A

module _ {ℓ} {A : Type ℓ} where
  unfoldable pub all : (A → Bool) → List A → Bool
  all p [] = true
  all p (x ∷ xs) = p x && all p xs

  unfoldable pub any : (A → Bool) → List A → Bool
  any p [] = false
  any p (x ∷ xs) = p x || any p xs

  -- the elements that pass, in order
  unfoldable pub keep : (A → Bool) → List A → List A
  keep p [] = []
  keep p (x ∷ xs) = cond (p x) (x ∷ keep p xs) (keep p xs)

  -- how many pass
  unfoldable pub count : (A → Bool) → List A → ℕ
  count p [] = 0
  count p (x ∷ xs) = one_if (p x) + count p xs

  unfoldable pub behind : A → Pulled A → Pulled A
  behind x missing = missing
  behind x (pulled y ys) = pulled y (x ∷ ys)

  unfoldable pub pull : (A → Bool) → List A → Pulled A
  pull p [] = missing
  pull p (x ∷ xs) = cond (p x) (pulled x xs) (behind x (pull p xs))

  -- x behind the elements that pass, before the first that does not: into its place in an ordered list
  unfoldable pub insert : (A → Bool) → A → List A → List A
  insert p a [] = a ∷ []
  insert p a (x ∷ xs) = cond (p x) (x ∷ insert p a xs) (a ∷ x ∷ xs)

  -- does r hold of each element and its successor?
  unfoldable pub chain : (A → A → Bool) → List A → Bool
  chain r [] = true
  chain r (x ∷ []) = true
  chain r (x ∷ y ∷ xs) = r x y && chain r (y ∷ xs)

  -- n times f
  unfoldable pub times : ℕ → (A → A) → A → A
  times zero f a = a
  times (suc n) f a = times n f (f a)

module _ {ℓ κ} {A : Type ℓ} {B : Type κ} where
  unfoldable pub each : (A → List B) → List A → List B
  each f [] = []
  each f (x ∷ xs) = f x ++ each f xs

abbrev pub has : ℕ → List ℕ → Bool
has n l = any (λ m. n == m) l

-- how often a number stands in a list
abbrev pub times_in : List ℕ → ℕ → ℕ
times_in l n = count (λ m. n == m) l

-- n numbers from a on
unfoldable pub from_on : ℕ → ℕ → List ℕ
from_on a zero = []
from_on a (suc n) = a ∷ from_on (suc a) n

unfoldable pub same : List ℕ → List ℕ → Bool
same [] [] = true
same [] (y ∷ ys) = false
same (x ∷ xs) [] = false
same (x ∷ xs) (y ∷ ys) = (x == y) && same xs ys

-- ---- bytes, and big-endian numbers

abbrev pub is_byte : ℕ → Bool
is_byte b = ltb b 256

unfoldable pub number_from : ℕ → List ℕ → ℕ
number_from a [] = a
number_from a (b ∷ bs) = number_from (a * 256 + b) bs

abbrev pub number : List ℕ → ℕ
number bs = number_from 0 bs

abbrev pub two_bytes : ℕ → List ℕ
two_bytes n = (n / 256 % 256) ∷ (n % 256) ∷ []

abbrev pub four_bytes : ℕ → List ℕ
four_bytes n = (n / 256 / 256 / 256 % 256) ∷ (n / 256 / 256 % 256) ∷ (n / 256 % 256) ∷ (n % 256) ∷ []
