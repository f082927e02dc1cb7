-- Tick.
use Rattle.std.specs.Prelude.{ℕ, ◌+◌, ◌-◌, ◌%◌, [], if◌then◌else◌, ◌==◌}
use Rattle.rules.specs.Numbers.{beat_ticks, wrap}
use Rattle.rules.specs.Words.{Nothing, Result, NoRunner, Runs, by_runner}
use Rattle.rules.specs.Tables.{Tables, with_runner, with_time, with_clock, with_ticks, change}
use Rattle.rules.specs.States.{on_clock}
use Rattle.rules.specs.Waking.{wake_those, wake}

-- "32-bit and go from 4,294,967,295 to 0"
abbrev pub one_more : ℕ → ℕ
one_more n = (n + 1) % wrap

-- "The running thread's count rises by 1, its slice falls by 1."
unfoldable pub charge : Tables → Tables
charge T = by_runner T (λ n s. with_runner (Runs n (s - 1)) (change n (λ t. with_ticks (one_more t.ticks) t) T)) T.runner

-- "At every twentieth tick the beat number rises and all clock waiters become ready, in order of waiting, with that number."
unfoldable pub beat : Tables → Tables
beat T =
    let b = one_more T.beats in
    if T.since + 1 == beat_ticks
    then wake_those (λ t. on_clock t.state) (λ t. Result b) T.clock (with_clock [] (with_time 0 b T))
    else with_time (T.since + 1) T.beats T

-- "Then a used-up slice sends the runner to the tail."
unfoldable pub rotate : Tables → Tables
rotate T = by_runner T (λ n s. if s == 0 then with_runner NoRunner (wake n Nothing T) else T) T.runner

-- in this order: count and slice, beat, used-up slice
unfoldable pub tick : Tables → Tables
tick T = rotate (beat (charge T))
