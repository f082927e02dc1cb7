-- Calls of nucleus_start and nucleus_step, known by what their contracts say alone, and what their reports tell.
use Rattle.std.specs.Prelude.{ℕ, ◌+◌, ◌&&◌, List, [], ◌∷◌, ◌==◌}
use Rattle.rules.specs.Lists.{one_if}
use Rattle.rules.specs.Load.{answer_from}
use Rattle.rules.specs.Events.{decode}
use Rattle.rules.specs.Runs.{Input}
use Rattle.laws.specs.Words.{Answer}
use Rattle.laws.specs.Calm.{is_tick}
use Rattle.lending.specs.Lent.{Started}
use Rattle.board.specs.Board.{Steps}
use Rattle.board.specs.declared.Report.{Report}

-- "refusal, status, runner, kind, sender, word"
abbrev pub line_of : Report → List ℕ
line_of r = r.refusal ∷ r.status ∷ r.runner ∷ r.kind ∷ r.sender ∷ r.word ∷ []

-- the answer that it hands over
abbrev pub answer_of : Report → Answer
answer_of r = answer_from r.kind r.sender r.word

-- calls of nucleus_step one after the other: the words before, the events, the reports, the words after
pub data Calls : List ℕ → Input → List Report → List ℕ → Type 0 where
  none : (m : List ℕ) → Calls m [] [] m
  then : (m e m₁ : List ℕ) (r : Report) (es : Input) (rs : List Report) (m' : List ℕ) → Steps m e m₁ r → Calls m₁ es rs m' →
      Calls m (e ∷ es) (r ∷ rs) m'

-- a call of nucleus_start, and those
pub record FromStart (es : Input) (rs : List Report) (m : List ℕ) : Type 0 where
  pub first : List ℕ
  pub started : Started first
  pub calls : Calls first es rs m

-- how many of these events are ticks whose report says that they are accepted
unfoldable pub ticks_told : Input → List Report → ℕ
ticks_told [] rs = 0
ticks_told (e ∷ es) [] = 0
ticks_told (e ∷ es) (r ∷ rs) = one_if (r.refusal == 0 && is_tick (decode e)) + ticks_told es rs
