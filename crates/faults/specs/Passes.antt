-- What a pass over the fields promises.
use Rattle.std.specs.Prelude.{ℕ, List, [], ◌∷◌, Option, None, Some}

-- the first of these offsets, if there is one
abbrev pub earliest_of : List ℕ → Option ℕ
earliest_of [] = None
earliest_of (offset ∷ more) = Some offset
