-- The loop of a program: rounds until a read tells the end, then a last turn and the last line.
use Rattle.std.specs.Prelude.{ℕ, zero, suc, ◌-◌, ◌≤◌, ◌≡◌, true, false, List, [], ◌++◌, length, take, drop}
use Rattle.rules.specs.Dispatch.{status}
use Rattle.store.specs.Store.{tables}
use Rattle.lines.specs.Text.{last_line}
use Rattle.printing.specs.Input.{is_ended}
use Rattle.stream.specs.declared.Run.{Run}
use Rattle.stream.specs.Stream.{Serves, Rounds}

-- the bytes that a read put behind what waited: r is the run before it, and v after it
abbrev pub behind : Run → Run → List ℕ → List ℕ
behind r v after = let left = r.window.held - r.window.at in take (v.window.held - left) (drop left after)

-- these bytes where there are no lines to write, else none
abbrev pub unless_lines : ℕ → List ℕ → List ℕ
unless_lines zero l = l
unless_lines (suc n) l = []

-- the piece of the input that a round read: none, where it had lines to write
abbrev pub piece : {m : List ℕ} {r : Run} {input out m' input' out' : List ℕ} {v : Run} → Rounds m r input out m' input' out' v → List ℕ
piece {input' = input'} {v = v} ρ = unless_lines ρ.served.filled (behind ρ.served v input')

-- What a program's loop does from the run r on, with the memory m and the bytes of its input's buffer. `coming` is the input that is
-- still to be read (the pieces of the rounds, one behind the other), `written` what it writes, and `end` the memory at the end. It makes
-- rounds, and writes the lines of each, until a read tells the end; then a last turn, told so, whose lines it writes, and the last line.
-- The buffers for lines are any that are long enough.
pub data Loop : List ℕ → Run → List ℕ → List ℕ → List ℕ → List ℕ → Type 0 where
  goes : {m : List ℕ} {r : Run} {input out m' input' out' : List ℕ} {v : Run} {coming written end : List ℕ}
      (ρ : Rounds m r input out m' input' out' v) → is_ended r.window.reading ≡ false → 160 ≤ length out
      → Loop m' v input' coming written end → Loop m r input (piece ρ ++ coming) (take v.filled out' ++ written) end
  ends : {m : List ℕ} {r : Run} {input out m' out' : List ℕ} {v : Run}
      → Serves m r true input out out' m' v → is_ended r.window.reading ≡ true → 322 ≤ length out → length out' ≡ length out
      → Loop m r input [] (take v.filled out' ++ last_line (status (tables m'))) m'
