-- The wait of a ready thread.
use Rattle.std.specs.Prelude.{ℕ, ◌-◌, ◌*◌, ◌≤◌, ◌<◌, ◌≡◌, true, false, List, replicate}
use Rattle.rules.specs.Lists.{has}
use Rattle.rules.specs.Numbers.{names, full_slice, small}
use Rattle.laws.specs.Words.{Limits}
use Rattle.rules.specs.Tables.{Tables, start}
use Rattle.rules.specs.Runs.{Input, run}
use Rattle.rules.specs.TableRules.{table_rules}
use Rattle.rules.specs.Step.{step}
use Rattle.rules.specs.Benches.{ask, ticks, sons}
use Rattle.laws.specs.Rest.{big}
use Rattle.laws.specs.Wait.{ticks_accepted, served_by, became_ready}
use Rattle.laws.proofs.Wait as wait

-- From ruled tables: a thread in the ready queue has run or has ended by the last of the next 5 × (threads − 1) accepted ticks, whatever
-- else happens.
pub wait_bound : (L : Limits) (T : Tables) (n : ℕ) (es : Input) → 1 ≤ L.threads → L.threads < names →
    table_rules L T ≡ true → has n T.ready ≡ true →
    full_slice * (L.threads - 1) ≤ ticks_accepted L T es →
    served_by L (full_slice * (L.threads - 1)) n T es ≡ true
wait_bound = wait.wait_bound

-- From a start, after any run: a thread that became ready has run or ended by the 95th tick accepted after that.
pub ready_thread_waits_at_most_95 : (before : Input) (e : List ℕ) (after : Input) (n : ℕ) →
    became_ready small (run small start before) e n ≡ true →
    95 ≤ ticks_accepted small (step small (run small start before) e).tables after →
    served_by small 95 n (step small (run small start before) e).tables after ≡ true
ready_thread_waits_at_most_95 = wait.ready_thread_waits_at_most_95

-- The same for 64 threads, by the 315th.
pub ready_thread_of_64_waits_at_most_315 : (before : Input) (e : List ℕ) (after : Input) (n : ℕ) →
    became_ready big (run big start before) e n ≡ true →
    315 ≤ ticks_accepted big (step big (run big start before) e).tables after →
    served_by big 315 n (step big (run big start before) e).tables after ≡ true
ready_thread_of_64_waits_at_most_315 = wait.ready_thread_of_64_waits_at_most_315

-- In P5 a thread does wait for 95 ticks, so no smaller number holds.
pub ninety_five_is_reached :
    (became_ready small (run small start (replicate 18 (ask 2 0))) (ask 2 0) 19 ≡ true)
    × (ticks_accepted small (run small start sons) (ticks 95) ≡ 95)
    × (served_by small 94 19 (run small start sons) (ticks 95) ≡ false)
    × (served_by small 95 19 (run small start sons) (ticks 95) ≡ true)
ninety_five_is_reached = wait.ninety_five_is_reached
