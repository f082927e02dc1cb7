-- The event program as a series of reads and turns.
use Rattle.std.specs.Prelude.{ℕ, ◌≡◌, Bool, true, List, [], ◌++◌, take, drop}
use Rattle.rules.specs.Tables.{Tables}
use Rattle.rules.specs.Dispatch.{status}
use Rattle.store.specs.Store.{tables}
use Rattle.lines.specs.Text.{last_line}
use Rattle.printing.specs.declared.Turned.{Turned}
use Rattle.printing.specs.Printing.{Turns}

-- What the event program does from line k on: `waiting` is read and not served yet, `coming` is the input that is still to be read, and
-- `written` is what it writes. It reads a piece, of any length, or makes a turn and writes that turn's lines, as often as it likes, and
-- at last, when all is read and served, it writes the last line. A turn is told that the input has ended only if nothing is to come.
pub data Series : ℕ → Tables → List ℕ → List ℕ → List ℕ → Type 0 where
  reads : {k : ℕ} {T : Tables} {waiting coming written : List ℕ} (piece : List ℕ)
      → Series k T (waiting ++ piece) coming written → Series k T waiting (piece ++ coming) written
  turns : {k : ℕ} {m m' : List ℕ} {waiting coming written before after : List ℕ} {ended : Bool} {t : Turned}
      → Turns m k waiting ended before after t m' → (ended ≡ true → coming ≡ [])
      → Series t.line (tables m') (drop t.used waiting) coming written
      → Series k (tables m) waiting coming (take t.filled after ++ written)
  ends : {k : ℕ} {T : Tables} → Series k T [] [] (last_line (status T))
