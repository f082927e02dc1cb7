-- Comparing bytes: `same` and what `==` tests of two slices are one.
use Rattle.std.proofs.Common.{◌≡◌, refl, ap, ℕ, Bool, true, List, [], ◌∷◌, ◌&&◌, ◌==◌, nat_eq}
use Rattle.std.specs.Cmp.Lexicographic.{pointwise}
use Rattle.rules.specs.Lists.{same}
use Rattle.laws.proofs.Members.{same_refl}

pub alike : {xs ys : List ℕ} → xs ≡ ys → same xs ys ≡ true
alike {xs} {ys} e = rw e (same_refl ys)

pub same_slices : (xs ys : List ℕ) → pointwise nat_eq xs ys ≡ same xs ys
unfolding same
same_slices [] [] = refl
same_slices [] (y ∷ ys) = refl
same_slices (x ∷ xs) [] = refl
same_slices (x ∷ xs) (y ∷ ys) = ap (λ (b : Bool). (x == y) && b) (same_slices xs ys)
