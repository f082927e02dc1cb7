-- Calls of nucleus_start, nucleus_step and nucleus_batch in any mix, known by what their contracts say alone.
use Rattle.std.specs.Prelude.{ℕ, List, [], ◌∷◌, ◌++◌, length}
use Rattle.std.specs.Borrow.{Bor}
use Rattle.rules.specs.Runs.{Input}
use Rattle.rules.specs.Batch.{taken}
use Rattle.lending.specs.Lent.{Started}
use Rattle.batching.specs.Batching.{Batches}
use Rattle.board.specs.Board.{Steps}
use Rattle.board.specs.declared.Report.{Report}

-- what is lent after these calls, and the events that they ran, by any results that the contracts allow
pub data Calls : Input → List ℕ → Type 0 where
  start : (m : List ℕ) → Started m → Calls [] m
  step : (es : Input) (m e m' : List ℕ) (r : Report) → Calls es m → Steps m e m' r → Calls (es ++ (e ∷ [])) m'
  batch : (es : Input) (m : List ℕ) (s : Bor (List ℕ)) (before : List ℕ) (r : Bor (List ℕ)) (m' after : List ℕ) (n : ℕ) → Calls es m
      → Batches m s before r m' after n → Calls (es ++ (taken (length before) s.now).events) m'
