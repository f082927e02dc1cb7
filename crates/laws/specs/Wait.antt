-- When a thread is served, and by which accepted tick.
use Rattle.std.specs.Prelude.{ℕ, ◌+◌, ◌-◌, Bool, ◌&&◌, ◌||◌, not, List, [], ◌∷◌, leb, ◌==◌}
use Rattle.rules.specs.Lists.{one_if, has}
use Rattle.laws.specs.Words.{Limits}
use Rattle.rules.specs.Tables.{Tables, live, runs_as}
use Rattle.rules.specs.Events.{decode}
use Rattle.rules.specs.Step.{step}
use Rattle.rules.specs.Runs.{Input}
use Rattle.laws.specs.Calm.{is_tick}

-- the step is accepted, and its event is a tick
unfoldable pub tick_accepted : Limits → Tables → List ℕ → Bool
tick_accepted L T bytes = (step L T bytes).decision.refusal == 0 && is_tick (decode bytes)

-- how many of a run's events are accepted ticks
unfoldable pub ticks_accepted : Limits → Tables → Input → ℕ
ticks_accepted L T [] = 0
ticks_accepted L T (e ∷ es) = one_if (tick_accepted L T e) + ticks_accepted L (step L T e).tables es

-- n is not in the ready queue before the step, and is in it after
unfoldable pub became_ready : Limits → Tables → List ℕ → ℕ → Bool
became_ready L T bytes n = not (has n T.ready) && has n (step L T bytes).tables.ready

-- n runs, or has ended
unfoldable pub served : ℕ → Tables → Bool
served n T = runs_as n T.runner || not (live n T)

-- n is served now, or after some further event that comes no later than the k-th accepted tick
unfoldable pub served_by : Limits → ℕ → ℕ → Tables → Input → Bool
served_by L k n T [] = served n T
served_by L k n T (e ∷ es) = let t =
    one_if (tick_accepted L T e) in served n T || (leb t k && served_by L (k - t) n (step L T e).tables es)
