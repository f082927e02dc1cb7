-- The marks beside an ending's set.
use Rattle.std.specs.Prelude.{ℕ, ◌≤◌, ◌<◌, ◌≡◌, List, ltb, length, get_or, take}
use Rattle.rules.specs.Lists.{has}

-- A name is marked with a place below n if and only if it is among the first n.
pub record Marks (xs marks : List ℕ) : Type 0 where
  pub size : length marks ≡ 256
  pub told : (k n : ℕ) → k < 256 → n ≤ 255 → ltb (get_or marks k 0) n ≡ has k (take n xs)
