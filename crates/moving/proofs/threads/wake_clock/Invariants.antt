-- `moving::threads::wake_clock` meets its contract. The loop: what is written, and the rest as it is to become, are all threads as they
-- are to become.
use mathlib.Core.List.{List}
use Rattle.rules.specs.Tables.{in_state}
use Rattle.rules.specs.States.{on_clock}
use Rattle.laws.specs.Words.{Ready, Result, Thread}
use Rattle.memory.specs.Memory.{rows_of}
use Rattle.moving.proofs.Loops.{Turned}
use Rattle.moving.proofs.Steps.{Only, the_threads}
use Rattle.moving.proofs.threads.wake_clock.Given as goal

abbrev pub invariant-loop-i : goal.invariant-loop-i
invariant-loop-i w = Only the_threads (rows_of w.initial.m)
    (λ (l : List Thread). Turned (λ (t : Thread). on_clock t.state) (in_state Ready (Result w.beats)) (rows_of w.initial.m).count (rows_of w.initial.m).threads l w.i)
    (rows_of w.m)
