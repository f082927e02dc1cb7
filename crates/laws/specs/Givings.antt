-- The names that the events of a run give.
use Rattle.std.specs.Prelude.{ℕ, ◌≡◌, ◌&&◌, List, [], ◌∷◌, ◌++◌, if◌then◌else◌, ◌==◌}
use Rattle.laws.specs.Words.{Limits}
use Rattle.rules.specs.Tables.{Tables, start}
use Rattle.rules.specs.Events.{decode}
use Rattle.rules.specs.Step.{step}
use Rattle.rules.specs.Runs.{Input}
use Rattle.rules.specs.Load.{loaded, load}
use Rattle.laws.specs.Words.{Answer, Nothing, FromMessage, FromNotice, SenderGone, Result}
use Rattle.laws.specs.Comings.{creates}

-- the result that is handed over, if one is
unfoldable pub result : Answer → List ℕ
result Nothing = []
result (FromMessage n w) = []
result (FromNotice n w) = []
result (SenderGone n) = []
result (Result w) = w ∷ []

-- the name that an event gives: an accepted request 1 or 2 gives its result
unfoldable pub given_by : Limits → Tables → List ℕ → List ℕ
given_by L T bytes = let d = (step L T bytes).decision in if d.refusal == 0 && creates (decode bytes) then result d.answer else []

-- the names that the events of a run give, in order
unfoldable pub givings : Limits → Tables → Input → List ℕ
givings L T [] = []
givings L T (e ∷ es) = given_by L T e ++ givings L (step L T e).tables es

-- A run begins with a start, which gives the name 0, or with a dump that is read, which gives none: "Reading a dump counts as a new start."
pub data Begun (L : Limits) : Tables → List ℕ → Type 0 where
  by_a_start : Begun L start (0 ∷ [])
  by_a_dump : (bytes : List ℕ) (T : Tables) → load L bytes ≡ loaded T → Begun L T []
