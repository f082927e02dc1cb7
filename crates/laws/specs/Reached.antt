-- The run in which a name rests no longer than it must.
use Rattle.std.specs.Prelude.{ℕ, ◌+◌, ◌-◌, [], ◌∷◌, ◌++◌, replicate}
use Rattle.rules.specs.Lists.{each, from_on}
use Rattle.rules.specs.Numbers.{names}
use Rattle.rules.specs.Runs.{Input}
use Rattle.rules.specs.Benches.{ask}

-- a son made and ended, for each of the k names from n on
unfoldable pub made_and_ended : ℕ → ℕ → Input
made_and_ended n k = each (λ m. ask 2 0 ∷ ask 3 m ∷ []) (from_on n k)

-- all but one of the n threads that there can be stay; the last one's place goes round, through the names up to 253, and then one more is
-- made
unfoldable pub a_round : ℕ → Input
a_round n = replicate (n - 2) (ask 2 0) ++ (made_and_ended (n - 1) (names + 1 - n) ++ (ask 2 0 ∷ []))
