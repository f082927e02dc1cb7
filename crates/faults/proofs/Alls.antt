-- A test of every element, in the rules' word and in the library's.
use Rattle.std.proofs.Common.{◌&&◌, ◌≡◌, Bool, List, [], ◌∷◌, refl, ap}
use Rattle.std.specs.List.{list_all}
use Rattle.rules.specs.Lists.{all}

pub all_is : {A : Type 0} (p : A → Bool) (xs : List A) → all p xs ≡ list_all p xs
unfolding all
all_is p [] = refl
all_is p (x ∷ xs) = ap (λ (b : Bool). p x && b) (all_is p xs)
