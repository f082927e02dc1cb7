-- A batch of events in one call (document 02, CR 2): what is run, what is handed back, and what comes of it.
use Rattle.std.specs.Prelude.{ℕ, ◌*◌, List, [], ltb, length, if◌then◌else◌}
use Rattle.rules.specs.Lists.{each}
use Rattle.rules.specs.Numbers.{Limits, decision_numbers}
use Rattle.rules.specs.Words.{Decision}
use Rattle.rules.specs.Tables.{Tables}
unfoldable pub use Rattle.rules.specs.Fields.{complete_in, unread_in, complete, unread}
use Rattle.rules.specs.Runs.{Input, run, line, decisions}

-- "the decisions as 32-bit numbers, six per event"
unfoldable pub numbers : List Decision → List ℕ
numbers ds = each line ds

-- what a call takes of some bytes: "the refusal, 0 or 14", the events that are run, and "the unread end"
pub record Taken : Type 0 where
  pub refusal : ℕ
  pub events : Input
  pub unread : List ℕ

-- "14, before all others, when the buffer holds fewer than six numbers per complete field; nothing is run then"; "a refused batch hands
-- back all its bytes". `room` is how many numbers the buffer holds.
unfoldable pub taken : ℕ → List ℕ → Taken
taken room bytes =
    if ltb room (decision_numbers * length (complete bytes)) then record { refusal = 14; events = []; unread = bytes }
    else record { refusal = 0; events = complete bytes; unread = unread bytes }

-- what a batch gives
pub record Batched : Type 0 where
  pub refusal : ℕ
  pub decisions : List Decision
  pub tables : Tables
  pub unread : List ℕ

-- "The result equals single calls in order, refused and malformed events included"
unfoldable pub batch : Limits → Tables → ℕ → List ℕ → Batched
batch L T room bytes =
    let t = taken room bytes in
    record { refusal = t.refusal; decisions = decisions L T t.events; tables = run L T t.events; unread = t.unread }
