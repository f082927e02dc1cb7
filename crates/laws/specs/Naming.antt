-- A walk along threads that stand by rising name.
use Rattle.std.specs.Prelude.{ℕ, ◌+◌, ◌%◌, List, [], ◌∷◌, if◌then◌else◌}
use Rattle.rules.specs.Numbers.{names}
use Rattle.laws.specs.Words.{Thread}
use Rattle.rules.specs.Tables.{named}

unfoldable pub walked : ℕ → List Thread → ℕ
walked c [] = c
walked c (t ∷ ts) = walked (if named c t then (c + 1) % names else c) ts
