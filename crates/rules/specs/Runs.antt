-- Runs: one event after the other, the decision of each, and that as a line of the event program.
use Rattle.std.specs.Prelude.{ℕ, List, [], ◌∷◌, map}
use Rattle.rules.specs.Numbers.{Limits}
use Rattle.rules.specs.Words.{Decision}
use Rattle.rules.specs.Tables.{Tables}
use Rattle.rules.specs.Step.{step}
use Rattle.rules.specs.Codes.{answer_numbers}

-- events, each the bytes of a field
abbrev pub Input : Type 0
Input = List (List ℕ)

-- the tables after some events
unfoldable pub run : Limits → Tables → Input → Tables
run L T [] = T
run L T (e ∷ es) = run L (step L T e).tables es

-- "refusal, status, runner, kind, sender, word"
unfoldable pub line : Decision → List ℕ
line d = let a = answer_numbers d.answer in d.refusal ∷ d.status ∷ d.runner ∷ a.kind ∷ a.sender ∷ a.word ∷ []

-- the decision of each event, in order
unfoldable pub decisions : Limits → Tables → Input → List Decision
decisions L T [] = []
decisions L T (e ∷ es) = let s = step L T e in s.decision ∷ decisions L s.tables es

-- "prints per field one line"
abbrev pub lines : Limits → Tables → Input → List (List ℕ)
lines L T es = map line (decisions L T es)
