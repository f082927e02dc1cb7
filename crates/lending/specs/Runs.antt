-- Calls of start_in and step_in, one after the other.
use Rattle.std.specs.Prelude.{ℕ, List, [], ◌∷◌, ◌++◌}
use Rattle.rules.specs.Runs.{Input}
use Rattle.rules.specs.declared.Decision.{Decision}
use Rattle.lending.specs.Lent.{Answered, Started}

-- The memory after a start and these events, by any results that the promises of start_in and step_in allow.
pub data Series : Input → List ℕ → Type 0 where
  started : (m : List ℕ) → Started m → Series [] m
  stepped : (es : Input) (m : List ℕ) (e m' : List ℕ) (d : Decision) → Series es m → Answered m e m' d → Series (es ++ (e ∷ [])) m'
