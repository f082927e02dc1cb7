-- Panic and idling.
use Rattle.std.specs.Prelude.{ℕ, ◌≡◌, ◌↔◌, true, false, List, [], map}
use Rattle.rules.specs.Lists.{all, any}
use Rattle.laws.specs.Words.{Limits}
use Rattle.rules.specs.Tables.{Tables, runs}
use Rattle.rules.specs.Dispatch.{status}
use Rattle.rules.specs.TableRules.{table_rules}
use Rattle.rules.specs.Runs.{run, Input}
use Rattle.rules.specs.Codes.{status_code}
use Rattle.rules.specs.Step.{step, decided}
use Rattle.rules.specs.Waking.{◌handing◌}
use Rattle.rules.specs.Refusals.{over}
use Rattle.laws.specs.Words.{NoRunner, Panicked, Event, Idle, Working, Halted, Nothing}
use Rattle.laws.specs.Outside.{from_outside, outside, some_ready, waking_series, bytes_of}
use Rattle.laws.proofs.Idle as idle

-- With threads and without a runner: panicked exactly if no series of ticks and interrupts, were they still accepted, makes any thread
-- ready.
pub panicked_exactly : (L : Limits) (T : Tables) → table_rules L T ≡ true → T.runner ≡ NoRunner → any (λ t. true) T.threads ≡ true
    → (status T ≡ Panicked) ↔ ((es : List Event) → all from_outside es ≡ true → some_ready (outside T es) ≡ false)
panicked_exactly = idle.panicked_exactly

-- Idle exactly if some series does.
pub idle_exactly : (L : Limits) (T : Tables) → table_rules L T ≡ true → T.runner ≡ NoRunner → any (λ t. true) T.threads ≡ true
    → (status T ≡ Idle) ↔ ((es : List Event) × (all from_outside es ≡ true) × (some_ready (outside T es) ≡ true))
idle_exactly = idle.idle_exactly

-- On an idle node the series `waking_series T` (at most 20 ticks, or one interrupt) is run as if none of it could be refused, and wakes
-- somebody.
pub idle_woken : (L : Limits) (T : Tables) → table_rules L T ≡ true → status T ≡ Idle
    → (run L T (map bytes_of (waking_series T)) ≡ outside T (waking_series T))
    × (some_ready (run L T (map bytes_of (waking_series T))) ≡ true)
idle_woken = idle.idle_woken

-- The status in a decision is that of the tables after the event.
pub reported : (L : Limits) (T : Tables) (bytes : List ℕ) → (step L T bytes).decision.status ≡ status_code (status (step L T bytes).tables)
reported = idle.reported

-- Running exactly if there is a runner, halted exactly if no thread is left.
pub running_exactly : (T : Tables) → (status T ≡ Working) ↔ (runs T.runner ≡ true)
running_exactly = idle.running_exactly

pub halted_exactly : (L : Limits) (T : Tables) → table_rules L T ≡ true → (status T ≡ Halted) ↔ (T.threads ≡ [])
halted_exactly = idle.halted_exactly

-- A halted or panicked node refuses every event with 1, and stays as it is.
pub stays_down : (L : Limits) (T : Tables) → over (status T) ≡ true → (bytes : List ℕ) → step L T bytes ≡ decided 1 (T handing Nothing)
stays_down = idle.stays_down

pub down_for_good : (L : Limits) (T : Tables) → over (status T) ≡ true → (es : Input) → run L T es ≡ T
down_for_good = idle.down_for_good
