-- What is counted along a run: accepted ticks, beats, the ticks of one thread.
use Rattle.std.specs.Prelude.{ℕ, ◌+◌, Bool, ◌&&◌, List, [], ◌∷◌, if◌then◌else◌, ◌==◌}
use Rattle.rules.specs.Lists.{one_if}
use Rattle.rules.specs.Numbers.{beat_ticks}
use Rattle.laws.specs.Words.{Limits}
use Rattle.rules.specs.Tables.{Tables, live, of_thread, runs_as}
use Rattle.rules.specs.Events.{decode}
use Rattle.rules.specs.Refusals.{refusal}
use Rattle.rules.specs.Step.{step}
use Rattle.rules.specs.Runs.{Input}
use Rattle.laws.specs.Words.{Thread, Event, Malformed, ByRunner, Tick, Interrupt}

-- what an event adds, if it is accepted
abbrev pub if_accepted : (Tables → Event → ℕ) → Limits → Tables → List ℕ → ℕ
if_accepted f L T bytes = if refusal L T (decode bytes) == 0 then f T (decode bytes) else 0

unfoldable pub over_run : (Tables → Event → ℕ) → Limits → Tables → Input → ℕ
over_run f L T [] = 0
over_run f L T (e ∷ es) = if_accepted f L T e + over_run f L (step L T e).tables es

-- an accepted tick that is a twentieth
unfoldable pub beats_by : Tables → Event → ℕ
beats_by T Malformed = 0
beats_by T (ByRunner c) = 0
beats_by T Tick = one_if (T.since + 1 == beat_ticks)
beats_by T (Interrupt d w) = 0

-- an accepted tick
unfoldable pub ticks_by : Tables → Event → ℕ
ticks_by T Malformed = 0
ticks_by T (ByRunner c) = 0
ticks_by T Tick = 1
ticks_by T (Interrupt d w) = 0

-- an accepted tick while n is the runner
unfoldable pub own_ticks_by : ℕ → Tables → Event → ℕ
own_ticks_by n T Malformed = 0
own_ticks_by n T (ByRunner c) = 0
own_ticks_by n T Tick = one_if (runs_as n T.runner)
own_ticks_by n T (Interrupt d w) = 0

abbrev pub beats_in : Limits → Tables → Input → ℕ
beats_in L T es = over_run beats_by L T es

abbrev pub ticks_in : Limits → Tables → Input → ℕ
ticks_in L T es = over_run ticks_by L T es

abbrev pub ticks_of : Limits → ℕ → Tables → Input → ℕ
ticks_of L n T es = over_run (own_ticks_by n) L T es

-- the tick count of thread n
abbrev pub ticks_at : ℕ → List Thread → ℕ
ticks_at n ts = of_thread 0 (λ t. t.ticks) n ts

-- a thread that is live at every point of a run
unfoldable pub lives_through : Limits → ℕ → Tables → Input → Bool
lives_through L n T [] = live n T
lives_through L n T (e ∷ es) = live n T && lives_through L n (step L T e).tables es
