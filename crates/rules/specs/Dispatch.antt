-- Dispatch, and the status that it leaves.
use Rattle.std.specs.Prelude.{ℕ, List, [], ◌∷◌, if◌then◌else◌}
use Rattle.rules.specs.Lists.{any}
use Rattle.rules.specs.Numbers.{full_slice}
use Rattle.rules.specs.Words.{Running, Nothing, Thread, Runs, Status, Working, Idle, Halted, Panicked, by_runner}
use Rattle.rules.specs.Tables.{Tables, with_runner, with_ready, in_state, of_thread, change}
use Rattle.rules.specs.States.{wakes_from_outside}
use Rattle.rules.specs.Waking.{Outcome, ◌handing◌}

-- "the front of the ready queue runs with a full slice and its waiting answer is handed over"
unfoldable pub run_next : List ℕ → Outcome → Outcome
run_next [] o = o
run_next (n ∷ ns) o =
    let T = o.tables in
    with_runner (Runs n full_slice) (with_ready ns (change n (in_state Running Nothing) T))
    handing of_thread Nothing (λ t. t.answer) n T.threads

-- "After each event, if nobody runs"
unfoldable pub dispatch : Outcome → Outcome
dispatch o = by_runner (run_next o.tables.ready o) (λ n s. o) o.tables.runner

-- "If nobody is ready: halted when no thread remains; idle when some thread waits for clock or device; else panicked."
unfoldable pub status_without : List Thread → Status
status_without [] = Halted
status_without (t ∷ ts) = if any (λ u. wakes_from_outside u.state) (t ∷ ts) then Idle else Panicked

-- "status (0 running, 1 idle, 2 halted, 3 panicked)": running while somebody runs
unfoldable pub status : Tables → Status
status T = by_runner (status_without T.threads) (λ n s. Working) T.runner
