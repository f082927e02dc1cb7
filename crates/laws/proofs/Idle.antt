-- The four statuses, each exactly when document 01 says; above all idle and panicked.
use Rattle.std.proofs.Common.{if◌then◌else◌}
use Prim.Native.Nat.{ℕ, zero, suc, ◌<◌}
use mathlib.Core.Path.{◌≡◌, refl, sym, ap, ◌∙◌}
use mathlib.Core.Logic.{◌↔◌}
use mathlib.Core.Bool.{Bool, true, false, ◌||◌, false≢true}
use mathlib.Core.List.{List, [], ◌∷◌, map, Memᴰ}
use native.Mathlib.Omega.{arith}
use Rattle.rules.specs.Lists.{one_if, all, any, times_in}
use Rattle.rules.specs.Numbers.{devices}
use Rattle.laws.specs.Words.{Limits}
use Rattle.rules.specs.Words.{by_runner}
use Rattle.rules.specs.Tables.{Tables, named, runs, runs_as}
use Rattle.rules.specs.States.{is_running, is_ready, on_clock, wakes_from_outside}
use Rattle.rules.specs.Waking.{◌handing◌}
use Rattle.rules.specs.Dispatch.{status_without, status}
use Rattle.rules.specs.Events.{decode}
use Rattle.rules.specs.Refusals.{first_of, over, refusal}
use Rattle.rules.specs.Codes.{status_code}
use Rattle.rules.specs.Step.{Stepped, decided, settle, step}
use Rattle.rules.specs.Runs.{Input, run}
use Rattle.rules.specs.TableRules.{table_rules}
use Rattle.laws.specs.Words.{State, Device, Nothing, Managers, Thread, Message, Runner, NoRunner, Runs, Working, Idle, Halted}
use Rattle.laws.specs.Words.{Panicked, Event}
use Rattle.laws.specs.Types.{Agree, Detail, Ruled}
use Rattle.laws.specs.Outside.{from_outside, outside, some_ready, waking_series, bytes_of}
use Rattle.laws.proofs.Tests.{clash}
use Rattle.laws.proofs.Tally.{member_any, not_any, none_any}
use Rattle.laws.proofs.Members.{member_times, times_member}
use Rattle.laws.proofs.Queues.{times_none}
use Rattle.laws.proofs.Threads.{member_here, here_member}
use Rattle.laws.proofs.PlacesKept.{runner_live}
use Rattle.laws.proofs.Sound.{tested_ruled}
use Rattle.laws.proofs.Outside.{some_waits, Still, clock_wakes, outside_still, Resting, series_wakes, series_accepted}

-- ---- what the table rules say of tables in which nobody runs

clock_named : (T : Tables) → Agree T → (n : ℕ) → Memᴰ n T.clock → (t : Thread) × Memᴰ t T.threads × (named n t ≡ true)
    × (on_clock t.state ≡ true)
clock_named T A n m = here_member on_clock T.threads n (omega (arith, A.beat n, member_times T.clock n m))

in_range : (ts : List Thread) (ms : List Message) (n : ℕ) (g : Managers) (s : State) (d : ℕ) → s ≡ Device d → Detail ts ms n g s →
    d < devices
unfolding Detail
in_range ts ms n g s d e x = rw e at x

rested : {L : Limits} {T : Tables} → Ruled L T → T.runner ≡ NoRunner → Resting T
rested {L} {T} R r =
    record {
      runner = r;
      ready = R.steady.quiet r;
      since = R.steady.since;
      queued = λ n m. let t = clock_named T R.inv.agree n m in member_any (named n) T.threads t.0 t.1 t.2;
      waits = λ t m e. times_member T.clock t.name
          (omega (arith, R.inv.agree.beat t.name, member_here on_clock T.threads t m (unfold on_clock in rw e)));
      device = λ t d m e. in_range T.threads T.messages t.name t.managers t.state d e (R.fits.threads t m).detail;
    }

-- nobody runs, nobody waits for clock or device: the tables are still
stilled : {L : Limits} {T : Tables} → Ruled L T → T.runner ≡ NoRunner → some_waits T.threads ≡ false → Still T.threads T
stilled {L} {T} R r w = record { runner = r; ready = R.steady.quiet r; clock = go T.clock refl; threads = refl }
  where
    go : (q : List ℕ) → T.clock ≡ q → T.clock ≡ []
    go [] e = e
    go (n ∷ q) e =
        let t = clock_named T R.inv.agree n (rw e (Memᴰ.head refl)) in
        absurd (clash t.3 (clock_wakes t.0.state (not_any (λ u. wakes_from_outside u.state) T.threads t.0 w t.1)))

-- nobody runs: nobody is ready or running
none_ready : {L : Limits} {T : Tables} → Ruled L T → T.runner ≡ NoRunner → some_ready T ≡ false
unfolding some_ready runs_as
none_ready {L} {T} R r =
    none_any _ T.threads (λ t m. neither (is_ready t.state) (is_running t.state) (λ e. no_ready t m e) (λ e. no_running t m e))
  where
    neither : (a b : Bool) → (a ≡ true → ⊥) → (b ≡ true → ⊥) → (a || b) ≡ false
    neither true b f g = absurd (f refl)
    neither false true f g = absurd (g refl)
    neither false false f g = refl

    no_ready : (t : Thread) → Memᴰ t T.threads → is_ready t.state ≡ true → ⊥
    no_ready t m e = omega (
      arith,
      member_here is_ready T.threads t m e,
      R.inv.agree.wait t.name,
      ap (λ (q : List ℕ). times_in q t.name) (R.steady.quiet r),
      times_none t.name,
    )

    no_running : (t : Thread) → Memᴰ t T.threads → is_running t.state ≡ true → ⊥
    no_running t m e = omega (
      arith,
      member_here is_running T.threads t m e,
      R.inv.agree.run t.name,
      ap (λ (x : Runner). one_if (runs_as t.name x)) r,
    )

-- ---- the status of tables in which nobody runs and threads remain

told : (T : Tables) → T.runner ≡ NoRunner → any (λ t. true) T.threads ≡ true → (b : Bool) → some_waits T.threads ≡ b →
    status T ≡ (if b then Idle else Panicked)
unfolding status
told T r some b e = rw r (go T.threads some e)
  where
    go : (ts : List Thread) → any (λ t. true) ts ≡ true → some_waits ts ≡ b → status_without ts ≡ (if b then Idle else Panicked)
    go [] n w = unfold any in absurd (false≢true n)
    go (t ∷ ts) n w = unfold status_without in rw w

told_idle : (b : Bool) → (if b then Idle else Panicked) ≡ Idle → b ≡ true
told_idle true e = refl
told_idle false e = let z : ◌≡◌ {A = ℕ} 0 1 = cc in absurd (omega arith)

told_panicked : (b : Bool) → (if b then Idle else Panicked) ≡ Panicked → b ≡ false
told_panicked true e = let z : ◌≡◌ {A = ℕ} 0 1 = cc in absurd (omega arith)
told_panicked false e = refl

ready_as : (T U : Tables) → U.threads ≡ T.threads → some_ready U ≡ some_ready T
unfolding some_ready
ready_as T U e = ap (any (λ t. is_ready t.state || is_running t.state)) e

never_ready : {L : Limits} {T : Tables} → Ruled L T → T.runner ≡ NoRunner → some_waits T.threads ≡ false
    → (es : List Event) → all from_outside es ≡ true → some_ready (outside T es) ≡ false
never_ready {L} {T} R r w es o = ready_as T (outside T es) (outside_still T.threads w T es o (stilled R r w)).threads ∙ none_ready R r

neither_status : (b : Bool) → ((if b then Idle else Panicked) ≡ Working → ⊥) × ((if b then Idle else Panicked) ≡ Halted → ⊥)
neither_status true = (λ i. let z : ◌≡◌ {A = ℕ} 0 1 = cc in omega arith, λ i. let z : ◌≡◌ {A = ℕ} 0 1 = cc in omega arith)
neither_status false = (λ i. let z : ◌≡◌ {A = ℕ} 0 1 = cc in omega arith, λ i. let z : ◌≡◌ {A = ℕ} 0 1 = cc in omega arith)

not_working : (ts : List Thread) → status_without ts ≡ Working → ⊥
unfolding status_without
not_working [] e = let z : ◌≡◌ {A = ℕ} 0 1 = cc in omega arith
not_working (t ∷ ts) e = (neither_status (some_waits (t ∷ ts))).0 e

only_halted : (ts : List Thread) → status_without ts ≡ Halted → ts ≡ []
unfolding status_without
only_halted [] e = refl
only_halted (t ∷ ts) e = absurd ((neither_status (some_waits (t ∷ ts))).1 e)

idle_says : (T : Tables) → status T ≡ Idle → (T.runner ≡ NoRunner) × (some_waits T.threads ≡ true)
unfolding status
idle_says T s = go T.runner refl s
  where
    waits : (ts : List Thread) → status_without ts ≡ Idle → some_waits ts ≡ true
    waits [] e = unfold status_without in let z : ◌≡◌ {A = ℕ} 0 1 = cc in absurd (omega arith)
    waits (t ∷ ts) e = unfold status_without in told_idle (some_waits (t ∷ ts)) e

    go : (r : Runner) → T.runner ≡ r → by_runner (status_without T.threads) (λ n s. Working) r ≡ Idle → (T.runner ≡ NoRunner)
        × (some_waits T.threads ≡ true)
    go NoRunner r e = (r, waits T.threads e)
    go (Runs n k) r e = let z : ◌≡◌ {A = ℕ} 0 1 = cc in absurd (omega arith)

-- ---- the laws

-- An idle node: the waking series is one of ticks and interrupts, and after it some thread runs. It is the ticks up to the next beat,
-- at most 20, where the first thread that waits for clock or device waits for the clock; else one interrupt of its device.
pub idle_wakes : (L : Limits) (T : Tables) → table_rules L T ≡ true → status T ≡ Idle
    → (all from_outside (waking_series T) ≡ true) × (some_ready (outside T (waking_series T)) ≡ true)
idle_wakes L T h s = let i = idle_says T s in series_wakes T (rested (tested_ruled L T h) i.0) i.1

-- An idle node accepts that series as bytes, and is woken by it.
pub idle_woken : (L : Limits) (T : Tables) → table_rules L T ≡ true → status T ≡ Idle
    → (run L T (map bytes_of (waking_series T)) ≡ outside T (waking_series T))
    × (some_ready (run L T (map bytes_of (waking_series T))) ≡ true)
idle_woken L T h s =
    let i = idle_says T s in
    let e = series_accepted L T (rested (tested_ruled L T h) i.0) i.1 (unfold over in rw s) in
    (e, ap some_ready e ∙ (idle_wakes L T h s).1)

-- Nobody runs and threads remain: the node is panicked exactly if no series of ticks and interrupts, were they accepted, makes any thread
-- ready.
pub panicked_exactly : (L : Limits) (T : Tables) → table_rules L T ≡ true → T.runner ≡ NoRunner → any (λ t. true) T.threads ≡ true
    → (status T ≡ Panicked) ↔ ((es : List Event) → all from_outside es ≡ true → some_ready (outside T es) ≡ false)
panicked_exactly L T h r some =
    (λ s. never_ready (tested_ruled L T h) r (told_panicked _ (sym (told T r some _ refl) ∙ s)), λ f. go (some_waits T.threads) refl f)
  where
    go : (b : Bool) → some_waits T.threads ≡ b → ((es : List Event) → all from_outside es ≡ true → some_ready (outside T es) ≡ false) →
        status T ≡ Panicked
    go true e f = let w = idle_wakes L T h (told T r some true e) in absurd (clash w.1 (f (waking_series T) w.0))
    go false e f = told T r some false e

-- Nobody runs and threads remain: the node idles exactly if some series of ticks and interrupts makes a thread ready.
pub idle_exactly : (L : Limits) (T : Tables) → table_rules L T ≡ true → T.runner ≡ NoRunner → any (λ t. true) T.threads ≡ true
    → (status T ≡ Idle) ↔ ((es : List Event) × (all from_outside es ≡ true) × (some_ready (outside T es) ≡ true))
idle_exactly L T h r some =
    (λ s. let w = idle_wakes L T h s in (waking_series T, w.0, w.1), λ x. go (some_waits T.threads) refl x)
  where
    go : (b : Bool) → some_waits T.threads ≡ b → (es : List Event) × (all from_outside es ≡ true) × (some_ready (outside T es) ≡ true) →
        status T ≡ Idle
    go true e x = told T r some true e
    go false e x = absurd (clash x.2 (never_ready (tested_ruled L T h) r e x.0 x.1))

-- The node is running exactly if somebody runs.
pub running_exactly : (T : Tables) → (status T ≡ Working) ↔ (runs T.runner ≡ true)
unfolding status runs
running_exactly T = go T.runner
  where
    go : (r : Runner) → (by_runner (status_without T.threads) (λ n s. Working) r ≡ Working) ↔ (by_runner false (λ n s. true) r ≡ true)
    go NoRunner = (λ e. absurd (not_working T.threads e), λ e. absurd (false≢true e))
    go (Runs n s) = (λ e. refl, λ e. refl)

-- The node is halted exactly if no thread is left.
pub halted_exactly : (L : Limits) (T : Tables) → table_rules L T ≡ true → (status T ≡ Halted) ↔ (T.threads ≡ [])
unfolding status
halted_exactly L T h = (λ s. go T.runner s, λ e. to T.runner refl e)
  where
    go : (r : Runner) → by_runner (status_without T.threads) (λ n s. Working) r ≡ Halted → T.threads ≡ []
    go NoRunner s = only_halted T.threads s
    go (Runs n k) s = let z : ◌≡◌ {A = ℕ} 0 1 = cc in absurd (omega arith)

    to : (r : Runner) → T.runner ≡ r → T.threads ≡ [] → by_runner (status_without T.threads) (λ n s. Working) T.runner ≡ Halted
    to NoRunner r e = rw (r, e) (unfold status_without in refl)
    to (Runs n k) r e = absurd (false≢true (unfold any in rw e at (runner_live (tested_ruled L T h).inv n k r)))

-- A decision reports the status of the tables that the step leaves.
pub reported : (L : Limits) (T : Tables) (bytes : List ℕ) → (step L T bytes).decision.status ≡ status_code (status (step L T bytes).tables)
unfolding step
reported L T bytes = go (refusal L T (decode bytes))
  where
    go : (k : ℕ) → (settle k T (decode bytes)).decision.status ≡ status_code (status (settle k T (decode bytes)).tables)
    go zero = unfold settle in refl
    go (suc k) = unfold settle in refl

-- A halted or panicked node refuses everything with 1 and leaves the tables as they are.
pub stays_down : (L : Limits) (T : Tables) → over (status T) ≡ true → (bytes : List ℕ) → step L T bytes ≡ decided 1 (T handing Nothing)
unfolding step
stays_down L T h bytes = ap (λ (k : ℕ). settle k T (decode bytes)) refused ∙ unfold settle in refl
  where
    refused : refusal L T (decode bytes) ≡ 1
    refused = unfold refusal first_of in rw h

-- So it stays down, whatever comes.
pub down_for_good : (L : Limits) (T : Tables) → over (status T) ≡ true → (es : Input) → run L T es ≡ T
unfolding run
down_for_good L T h [] = refl
down_for_good L T h (e ∷ es) = ap (λ (s : Stepped). run L s.tables es) (stays_down L T h e) ∙ down_for_good L T h es
