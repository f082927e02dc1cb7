-- What a thread's state says: whom it hears, what it waits for.
use Rattle.std.specs.Prelude.{ℕ, Bool, true, false, ◌||◌, ◌==◌}
use Rattle.rules.specs.Words.{Wanted, State, Running, Ready, Receiving, Clock, Device, Trapped, Managers, Thread, by_state, by_wanted}
use Rattle.rules.specs.Words.{by_manager}
use Rattle.rules.specs.Tables.{manager}

-- "A thread is running, ready, receiving (from one name or anybody), waiting for the clock, waiting for a device, or trapped."
-- One test for each of these that the rules ask about.
unfoldable pub is_running : State → Bool
is_running Running = true
is_running Ready = false
is_running (Receiving w) = false
is_running Clock = false
is_running (Device d) = false
is_running (Trapped k) = false

-- "ready"
unfoldable pub is_ready : State → Bool
is_ready Running = false
is_ready Ready = true
is_ready (Receiving w) = false
is_ready Clock = false
is_ready (Device d) = false
is_ready (Trapped k) = false

-- "waiting for the clock"
unfoldable pub on_clock : State → Bool
on_clock Running = false
on_clock Ready = false
on_clock (Receiving w) = false
on_clock Clock = true
on_clock (Device d) = false
on_clock (Trapped k) = false

-- "receiving (from one name or anybody)": would it take something from sender n?
abbrev pub matches : ℕ → Wanted → Bool
matches n w = by_wanted true (λ f. f == n) w

-- "If the receiver waits for this sender or for anybody" (Send)
unfoldable pub receives : ℕ → State → Bool
receives n s = by_state false (matches n) (λ d. false) (λ k. false) s

-- "waiting for a device"
unfoldable pub at_device : ℕ → State → Bool
at_device d s = by_state false (λ w. false) (λ e. d == e) (λ k. false) s

-- "another thread waits for that device" (refusal 8), "The picked device's waiter" (Interrupt)
abbrev pub waits_for : ℕ → Thread → Bool
waits_for d t = at_device d t.state

-- "some thread waits for clock or device"
unfoldable pub wakes_from_outside : State → Bool
wakes_from_outside s = on_clock s || by_state false (λ w. false) (λ d. true) (λ k. false) s

-- "trapped" on n: n is "the manager it waits for", the entry of the kind that it trapped with
unfoldable pub trapped_on : ℕ → Managers → State → Bool
trapped_on n g s = by_state false (λ w. false) (λ d. false) (λ k. by_manager false (λ m. n == m) (manager k g)) s

-- "every thread trapped on it" (Ending)
abbrev pub awaits : ℕ → Thread → Bool
awaits n t = trapped_on n t.managers t.state
