-- The programs: what turns and rounds write.
use Rattle.std.specs.Prelude.{ℕ, ◌-◌, ◌≤◌, ◌<◌, ◌≡◌, List, [], length, get_or}
use Rattle.rules.specs.Numbers.{small}
use Rattle.rules.specs.Runs.{run}
use Rattle.rules.specs.Tables.{start}
use Rattle.printing.specs.Printing.{output, fields}
use Rattle.printing.specs.Whole.{Series}
use Rattle.store.specs.Store.{tables}
use Rattle.stream.specs.Loop.{Loop}
use Rattle.stream.specs.Stream.{Begins, Right, Rounds}
use Rattle.stream.specs.declared.Run.{Run}
use Rattle.printing.proofs.Whole as printing_whole
use Rattle.stream.proofs.WholeRuns as stream_whole_runs

-- From a start, with nothing read yet: the bytes written are the document's output for the whole input.
pub writes_output : {input written : List ℕ} → Series 1 start [] input written → written ≡ output input
writes_output = printing_whole.writes_output

-- So the pieces and the turns do not matter.
pub same_bytes : {input written again : List ℕ} → Series 1 start [] input written → Series 1 start [] input again → written ≡ again
same_bytes = printing_whole.same_bytes

module _ {m : List ℕ} {r : Run} {input coming written end : List ℕ} (b : Begins m r) (l : Loop m r input coming written end) where
  -- From a start: rounds until a read tells the end, one last turn and the last line write the document's output for all that was read.
  pub rounds_write_output : written ≡ output coming
  rounds_write_output = stream_whole_runs.rounds_write_output b l

  -- And they leave the tables of the rules' run over the fields of all that was read.
  pub rounds_leave_the_run : tables end ≡ run small start (fields coming)
  rounds_leave_the_run = stream_whole_runs.rounds_leave_the_run b l

-- In a buffer of 65,538 bytes or more no read is asked for nothing, so that lack of room is never told as the end.
pub reads_with_room : {m : List ℕ} {r : Run} {input out m' input' out' : List ℕ} {v : Run} (ρ : Rounds m r input out m' input' out' v) →
    Right m r (length input) (length out) → ((i : ℕ) → get_or input i 0 < 256) → 160 ≤ length out →
    65538 ≤ length input → ρ.served.filled ≡ 0 → 0 < length input - (ρ.served.window.held - ρ.served.window.at)
reads_with_room = stream_whole_runs.reads_with_room
