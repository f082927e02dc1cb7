-- Series of ticks and interrupts, as if they were accepted, and what they can wake.
use Rattle.std.specs.Prelude.{ℕ, ◌-◌, ◌/◌, ◌^◌, Bool, true, false, ◌&&◌, ◌||◌, List, [], ◌∷◌, ◌++◌, ltb, replicate, if◌then◌else◌}
use Rattle.rules.specs.Lists.{any, four_bytes}
use Rattle.rules.specs.Numbers.{beat_ticks, devices, wrap}
use Rattle.rules.specs.Words.{by_state}
use Rattle.laws.specs.Words.{State, Thread, Event, Malformed, ByRunner, Tick, Interrupt}
use Rattle.rules.specs.Tables.{Tables}
use Rattle.rules.specs.States.{is_running, is_ready, wakes_from_outside}
use Rattle.rules.specs.Dispatch.{dispatch}
use Rattle.rules.specs.Step.{act}

-- a tick, or an interrupt with a device and a word in their ranges
unfoldable pub from_outside : Event → Bool
from_outside Malformed = false
from_outside (ByRunner c) = false
from_outside Tick = true
from_outside (Interrupt d w) = ltb d devices && ltb w wrap

-- the tables after an event, were it accepted: what it does and the dispatch, whatever the status
unfoldable pub were_accepted : Tables → Event → Tables
were_accepted T e = (dispatch (act T e)).tables

-- the tables after a series of events, were they accepted
unfoldable pub outside : Tables → List Event → Tables
outside T [] = T
outside T (e ∷ es) = outside (were_accepted T e) es

-- some thread is ready, or became ready and runs: the dispatch lets the front of the ready queue run in the same event
unfoldable pub some_ready : Tables → Bool
some_ready T = any (λ t. is_ready t.state || is_running t.state) T.threads

-- what wakes a thread that waits for clock or device: the ticks up to the next beat, or an interrupt of its device
unfoldable pub woken_by : ℕ → State → List Event
woken_by since s = by_state (replicate (beat_ticks - since) Tick) (λ w. []) (λ d. Interrupt d 0 ∷ []) (λ k. []) s

-- the same for the first of some threads that waits for clock or device
unfoldable pub first_woken : ℕ → List Thread → List Event
first_woken since [] = []
first_woken since (t ∷ ts) = if wakes_from_outside t.state then woken_by since t.state else first_woken since ts

abbrev pub waking_series : Tables → List Event
waking_series T = first_woken T.since T.threads

unfoldable pub bytes_of : Event → List ℕ
bytes_of Malformed = []
bytes_of (ByRunner c) = []
bytes_of Tick = 20 ∷ 0 ∷ 0 ∷ []
bytes_of (Interrupt d w) = 21 ∷ 0 ∷ 12 ∷ (four_bytes (2 ^ d / wrap) ++ (four_bytes (2 ^ d) ++ four_bytes w))
