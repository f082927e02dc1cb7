-- The wait of a ready thread: it has been given the processor, or has ended, by the tick number 5 × (threads − 1) accepted after it
-- became ready.
use Rattle.std.proofs.Common.{◌==◌}
use Prim.Native.Nat.{ℕ, zero, suc, ◌+◌, ◌-◌, ◌*◌, ◌≤◌, ◌<◌}
use mathlib.Core.Path.{◌≡◌, refl, ap}
use mathlib.Core.Bool.{true, false, ◌&&◌, not, false≢true}
use mathlib.Core.List.{List, [], ◌∷◌, map}
use native.Mathlib.Omega.{arith}
use lib.ListN.{length, replicate, length-map}
use borrow.Author.Tests.{le-leb, ne_eqb}
use Rattle.rules.specs.Lists.{one_if, any, has, times_in}
use Rattle.rules.specs.Numbers.{small, names, full_slice}
use Rattle.laws.specs.Words.{Limits}
use Rattle.rules.specs.Tables.{Tables, live, runs_as, start}
use Rattle.rules.specs.States.{is_running}
use Rattle.rules.specs.Events.{decode}
use Rattle.rules.specs.Refusals.{refusal}
use Rattle.rules.specs.Dispatch.{dispatch}
use Rattle.rules.specs.Step.{act, settle, step}
use Rattle.rules.specs.Runs.{Input, run}
use Rattle.rules.specs.TableRules.{table_rules}
use Rattle.rules.specs.Opened.{opened}
use Rattle.rules.specs.Benches.{ask, ticks, sons}
use Rattle.laws.specs.Words.{Nothing, Thread, Runner, NoRunner, Runs, Event, Malformed, ByRunner, Tick, Interrupt}
use Rattle.laws.specs.Rest.{big}
use Rattle.laws.specs.Wait.{tick_accepted, ticks_accepted, became_ready, served, served_by}
use Rattle.laws.specs.Types.{here, Ruled}
use Rattle.laws.specs.Calm.{is_tick}
use Rattle.laws.proofs.Tests.{and_right, ◌&◌, or_left, or_right, one_at_most}
use Rattle.laws.proofs.Tally.{count_cons, count_map}
use Rattle.laws.proofs.Queues.{no_longer, ahead, ahead_less}
use Rattle.laws.proofs.Threads.{apart}
use Rattle.laws.proofs.Calm.{slice_left, rank, Nearer, now, over, soon, act_nearer, tick_nearer}
use Rattle.laws.proofs.Sound.{tested_ruled}
use Rattle.laws.proofs.Kept.{start_ruled, step_ruled, run_ruled}

-- ---- the rank of a ready thread is at most a full slice for each other thread that there can be

-- who is ready waits for a runner
pub slice_right : {L : Limits} {T : Tables} (n : ℕ) → Ruled L T → has n T.ready ≡ true → (1 ≤ slice_left T.runner)
    × (slice_left T.runner ≤ full_slice)
unfolding slice_left any
slice_right {L} {T} n R h = go T.runner refl
  where
    go : (r : Runner) → T.runner ≡ r → (1 ≤ slice_left r) × (slice_left r ≤ full_slice)
    go NoRunner e = absurd (false≢true (rw (R.steady.quiet e) at h))
    go (Runs m s) e = R.steady.slice m s e

-- the runner and the ready are threads, each one once
ready_few : {L : Limits} {T : Tables} (m s : ℕ) → Ruled L T → T.runner ≡ Runs m s → suc (length T.ready) ≤ length T.threads
unfolding runs_as
ready_few {L} {T} m s R e =
    omega (arith, no_longer (m ∷ T.ready) (map (λ t. t.name) T.threads) each, length-map T.threads (λ t. t.name))
  where
    each : (n : ℕ) → times_in (m ∷ T.ready) n ≤ times_in (map (λ t. t.name) T.threads) n
    each n =
        let r : here is_running n T.threads ≡ one_if (n == m) = rw e at (R.inv.agree.run n) in
        omega (
          arith,
          count_cons (λ x. n == x) m T.ready,
          R.inv.agree.wait n,
          apart n T.threads,
          count_map (λ x. n == x)
              (λ (t : Thread). t.name) T.threads,
        )

pub rank_most : {L : Limits} {T : Tables} (n : ℕ) → Ruled L T → has n T.ready ≡ true → rank n T ≤ full_slice * (L.threads - 1)
unfolding rank
rank_most {L} {T} n R h = go T.runner refl
  where
    go : (r : Runner) → T.runner ≡ r → full_slice * ahead n T.ready + slice_left T.runner ≤ full_slice * (L.threads - 1)
    go NoRunner e = absurd (false≢true (unfold any in rw (R.steady.quiet e) at h))
    go (Runs m s) e = omega (arith, (slice_right n R h).1, ahead_less n T.ready h, ready_few m s R e, R.inv.few)

-- ---- one step

-- A step does not raise the rank of a ready thread, and an accepted tick lowers it; unless the thread runs or has ended.
pub step_nearer : {L : Limits} {T : Tables} (n : ℕ) (bytes : List ℕ) → Ruled L T → has n T.ready ≡ true →
    Nearer n (rank n T - one_if (tick_accepted L T bytes)) (step L T bytes).tables
unfolding tick_accepted step
step_nearer {L} {T} n bytes R h = go (refusal L T (decode bytes)) (decode bytes)
  where
    other : (e : Event) → is_tick e ≡ false → Nearer n (rank n T - one_if (is_tick e)) (dispatch (act T e)).tables
    other e i =
        let z : rank n T - 0 ≡ rank n T = omega arith in
        rw (i, z) (act_nearer n e T i h)

    each : (e : Event) → Nearer n (rank n T - one_if (is_tick e)) (dispatch (act T e)).tables
    each Malformed = other Malformed (unfold is_tick in refl)
    each (ByRunner c) = other (ByRunner c) (unfold is_tick in refl)
    each Tick = unfold is_tick act in tick_nearer n T Nothing h (slice_right n R h).0
    each (Interrupt d w) = other (Interrupt d w) (unfold is_tick in refl)

    go : (r : ℕ) (e : Event) → Nearer n (rank n T - one_if ((settle r T e).decision.refusal == 0 && is_tick e)) (settle r T e).tables
    go zero e = unfold settle in each e
    go (suc r) e = unfold settle in rw (ne_eqb (suc r) 0 (omega arith)) (soon h (omega arith))

-- ---- runs

running_served : (n : ℕ) (T : Tables) → runs_as n T.runner ≡ true → served n T ≡ true
unfolding served
running_served n T r = or_left (runs_as n T.runner) _ r

ended_served : (n : ℕ) (T : Tables) → live n T ≡ false → served n T ≡ true
unfolding served
ended_served n T d = or_right (runs_as n T.runner) _ (ap not d)

at_once : (L : Limits) (k n : ℕ) (T : Tables) (es : Input) → served n T ≡ true → served_by L k n T es ≡ true
unfolding served_by
at_once L k n T [] s = s
at_once L k n T (e ∷ es) s = or_left (served n T) _ s

rank_least : {L : Limits} {T : Tables} (n : ℕ) → Ruled L T → has n T.ready ≡ true → 1 ≤ rank n T
unfolding rank
rank_least n R h = omega (arith, (slice_right n R h).0)

-- who is ready with a rank of at most k is served by the k-th accepted tick
pub rank_served : {L : Limits} (k n : ℕ) (T : Tables) (es : Input) → L.threads < names → Ruled L T → has n T.ready ≡ true →
    rank n T ≤ k → rank n T ≤ ticks_accepted L T es → served_by L k n T es ≡ true
unfolding ticks_accepted served_by
rank_served {L} k n T [] l R h le enough = absurd (omega (arith, rank_least n R h))
rank_served {L} k n T (e ∷ es) l R h le enough =
    or_right (served n T) _ (le-leb t k (omega (arith, first)) & later (step_nearer n e R h)
    (rank_served (k - t) n U es l (step_ruled e l R)))
  where
    t : ℕ
    t = one_if (tick_accepted L T e)

    U : Tables
    U = (step L T e).tables

    first : t ≤ rank n T
    first = omega (arith, one_at_most (tick_accepted L T e), rank_least n R h)

    later : Nearer n (rank n T - t) U →
        (has n U.ready ≡ true → rank n U ≤ k - t → rank n U ≤ ticks_accepted L U es → served_by L (k - t) n U es ≡ true) →
        served_by L (k - t) n U es ≡ true
    later (now r) go_on = at_once L _ n U es (running_served n U r)
    later (over d) go_on = at_once L _ n U es (ended_served n U d)
    later (soon i p) go_on = go_on i (omega (arith, first)) (omega (arith, first))

-- ---- the law

wait_ruled : {L : Limits} (n : ℕ) (T : Tables) (es : Input) → L.threads < names → Ruled L T → has n T.ready ≡ true →
    full_slice * (L.threads - 1) ≤ ticks_accepted L T es →
    served_by L (full_slice * (L.threads - 1)) n T es ≡ true
wait_ruled n T es l R h enough = rank_served _ n T es l R h (rank_most n R h) (omega (arith, rank_most n R h))

-- In tables that meet the table rules, whoever is ready is served by the tick number 5 × (threads − 1) accepted from there on, whatever
-- other events come between.
pub wait_bound : (L : Limits) (T : Tables) (n : ℕ) (es : Input) → 1 ≤ L.threads → L.threads < names →
    table_rules L T ≡ true → has n T.ready ≡ true →
    full_slice * (L.threads - 1) ≤ ticks_accepted L T es →
    served_by L (full_slice * (L.threads - 1)) n T es ≡ true
wait_bound L T n es _ l r h enough = wait_ruled n T es l (tested_ruled L T r) h enough

-- From a start: a thread that event e made ready is served by the tick number 5 × (threads − 1) accepted after e.
pub ready_thread_waits : (L : Limits) → 1 ≤ L.threads → L.threads < names → (before : Input) (e : List ℕ) (after : Input) (n : ℕ) →
    became_ready L (run L start before) e n ≡ true →
    full_slice * (L.threads - 1) ≤ ticks_accepted L (step L (run L start before) e).tables after →
    served_by L (full_slice * (L.threads - 1)) n (step L (run L start before) e).tables after ≡ true
unfolding became_ready
ready_thread_waits L one l before e after n b enough =
    wait_ruled n _ after l (step_ruled e l (run_ruled start before l (start_ruled L one)))
    (and_right (not (has n (run L start before).ready)) _ b) enough

-- Demand 3: a ready thread has been given the processor or has ended by the 95th tick accepted after it became ready.
pub ready_thread_waits_at_most_95 : (before : Input) (e : List ℕ) (after : Input) (n : ℕ) →
    became_ready small (run small start before) e n ≡ true →
    95 ≤ ticks_accepted small (step small (run small start before) e).tables after →
    served_by small 95 n (step small (run small start before) e).tables after ≡ true
ready_thread_waits_at_most_95 = ready_thread_waits small (omega arith) (omega arith)

-- The same for 64 threads and 128 blocks: 315.
pub ready_thread_of_64_waits_at_most_315 :
    (before : Input) (e : List ℕ) (after : Input) (n : ℕ) →
    became_ready big (run big start before) e n ≡ true →
    315 ≤ ticks_accepted big (step big (run big start before) e).tables after →
    served_by big 315 n (step big (run big start before) e).tables after ≡ true
ready_thread_of_64_waits_at_most_315 = ready_thread_waits _ (omega arith) (omega arith)

-- The bound is reached. After P4's 19 sons thread 19 has just become ready; of the 95 ticks that come then, all accepted, 94 are not
-- enough and 95 are.
pub ninety_five_is_reached :
    (became_ready small (run small start (replicate 18 (ask 2 0))) (ask 2 0) 19 ≡ true)
    × (ticks_accepted small (run small start sons) (ticks 95) ≡ 95)
    × (served_by small 94 19 (run small start sons) (ticks 95) ≡ false)
    × (served_by small 95 19 (run small start sons) (ticks 95) ≡ true)
unfolding opened is_tick tick_accepted ticks_accepted became_ready served served_by
ninety_five_is_reached = (refl, refl, refl, refl)
