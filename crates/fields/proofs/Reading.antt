-- What is left for a reader that has advanced.
use Prim.Native.Nat.{ℕ, ◌*◌, ◌+◌, ◌≤◌}
use mathlib.Core.Path.{◌≡◌, sym, ◌∙◌}
use mathlib.Core.Bool.{false}
use mathlib.Core.List.{List, [], ◌∷◌}
use native.Mathlib.Omega.{arith}
use lib.ListN.{length, drop, drop_of_length-le}
use lib.Seq.{drop-drop}
use borrow.Author.Tests.{leb-false}
use Rattle.fields.specs.Fields.{field_size, whole, cut}

-- "reading goes on behind their length": behind the first field of what was left
pub goes_on : (s : List ℕ) (at : ℕ) → drop (cut s at).end s ≡ drop (field_size (drop at s)) (drop at s)
goes_on s at = sym (drop-drop (field_size (drop at s)) at s)

size_cut : (l : List ℕ) → whole l ≡ false → length l ≤ field_size l
unfolding field_size whole
size_cut [] w = omega arith
size_cut (a ∷ []) w = omega arith
size_cut (a ∷ b ∷ []) w = omega arith
size_cut (a ∷ b ∷ c ∷ l) w = omega (arith, leb-false (b * 256 + c) (length l) w)

-- "a field cut off by the end of input is the last": nothing is left behind it
pub cut_off_is_last : (s : List ℕ) (at : ℕ) → (cut s at).whole ≡ false → drop (cut s at).end s ≡ []
cut_off_is_last s at w = goes_on s at ∙ drop_of_length-le (drop at s) (size_cut (drop at s) w)
