-- What an event other than a tick does to the runner, the ready queue and the time; and the rank of a ready thread from event to event.
use Rattle.std.proofs.Common.{◌==◌}
use Prim.Native.Nat.{ℕ, zero, suc, ◌+◌, ◌-◌, ◌*◌, ◌≤◌}
use mathlib.Core.Path.{◌≡◌, refl, sym, ap, ◌∙◌}
use mathlib.Core.Logic.{⊎_elim}
use mathlib.Core.Bool.{Bool, true, false, not, false≢true, true≢false}
use mathlib.Core.List.{List, [], ◌∷◌}
use native.Mathlib.Omega.{arith}
use borrow.Author.Tests.{eqb-true}
use Rattle.rules.specs.Lists.{Pulled, missing, pulled, any, has}
use Rattle.rules.specs.Numbers.{full_slice, beat_ticks}
use Rattle.rules.specs.Words.{by_manager, by_runner}
use Rattle.rules.specs.Tables.{Tables, in_state, named, live, of_thread, change, manager, runs_as, me}
use Rattle.rules.specs.States.{waits_for}
use Rattle.rules.specs.Waking.{Outcome, ◌handing◌, wake_those, accepts, queue, deliver, stop}
use Rattle.rules.specs.Ending.{ended_set, without_managers, remove, misses, told_gone, release, end}
use Rattle.rules.specs.Send.{decides, decide, send}
use Rattle.rules.specs.Receive.{received, receive}
use Rattle.rules.specs.Trap.{notice, trap}
use Rattle.rules.specs.Tick.{charge, beat, rotate, tick}
use Rattle.rules.specs.Interrupt.{interrupt}
use Rattle.rules.specs.Requests.{create, terminate, set_over, wait_for_clock, take_held}
use Rattle.rules.specs.Dispatch.{dispatch}
use Rattle.rules.specs.Step.{serve, act}
use Rattle.laws.specs.Words.{Wanted, TrapKind, State, Running, Ready, Receiving, Clock, Device, Trapped, Answer, Nothing, Manager}
use Rattle.laws.specs.Words.{Unset, Set, Gone, Parent, Thread, Message, Held, Runner, NoRunner, Runs, Target, Oneself, Named, Call}
use Rattle.laws.specs.Words.{Send, Receive, CreateBrother, CreateSon, Terminate, SetManager, GetCpuTime, WaitForClock, WaitForIo}
use Rattle.laws.specs.Words.{Trap, Event, Malformed, ByRunner, Tick, Interrupt}
use Rattle.laws.specs.Calm.{is_tick}
use Rattle.laws.proofs.Tests.{by_if, by_runs, same?}
use Rattle.laws.proofs.Tally.{zero_any, none_left}
use Rattle.laws.proofs.Queues.{ahead, ahead_keep, Longer, longer_same, longer_trans, longer_place}
use Rattle.laws.proofs.Threads.{names_mapped, turned_live, put_name}
use Rattle.laws.proofs.Steps.{by_dispatch}

-- ---- what an event other than a tick does

-- the runner goes on with its slice, or nobody runs
pub data Goes (T U : Tables) : Type 0 where
  on : U.runner ≡ T.runner → Goes T U
  off : U.runner ≡ NoRunner → Goes T U

-- a thread of the ready queue has ended, or stands in the queue with no more before it
pub data Stays (n : ℕ) (T U : Tables) : Type 0 where
  ended : live n U ≡ false → Stays n T U
  stays : has n U.ready ≡ true → ahead n U.ready ≤ ahead n T.ready → Stays n T U

pub record Calm (T U : Tables) : Type 0 where
  pub goes : Goes T U
  pub queue : (n : ℕ) → has n T.ready ≡ true → Stays n T U
  pub since : U.since ≡ T.since
  pub beats : U.beats ≡ T.beats

-- nobody leaves the queue
record Onward (T U : Tables) : Type 0 where
  longer : Longer T.ready U.ready
  goes : Goes T U
  since : U.since ≡ T.since
  beats : U.beats ≡ T.beats

calm : {T U : Tables} → Onward T U → Calm T U
calm {T} {U} o = record {
  goes = o.goes;
  queue = λ n h. let p = longer_place n o.longer h in stays p.0 (omega (arith, p.1));
  since = o.since;
  beats = o.beats;
}

goes_trans : {T U W : Tables} → Goes T U → Goes U W → Goes T W
goes_trans (on a) (on b) = on (b ∙ a)
goes_trans (on a) (off b) = off b
goes_trans (off a) (on b) = off (b ∙ a)
goes_trans (off a) (off b) = off b

onward_trans : {T U W : Tables} → Onward T U → Onward U W → Onward T W
onward_trans a b = record {
  longer = longer_trans a.longer b.longer;
  goes = goes_trans a.goes b.goes;
  since = b.since
      ∙ a.since;
  beats = b.beats ∙ a.beats;
}

-- queue, runner and time are as they were
same_front : {T U : Tables} → U.ready ≡ T.ready → U.runner ≡ T.runner → U.since ≡ T.since → U.beats ≡ T.beats → Onward T U
same_front q r s b = record { longer = longer_same q; goes = on r; since = s; beats = b }

wake_onward : (p : Thread → Bool) (a : Thread → Answer) (ns : List ℕ) (T : Tables) → Onward T (wake_those p a ns T)
unfolding wake_those
wake_onward p a ns T = record { longer = record { more = ns; whole = refl }; goes = on refl; since = refl; beats = refl }

stop_onward : (n : ℕ) (s : State) (T : Tables) → Onward T (stop n s T)
unfolding stop change
stop_onward n s T = record { longer = longer_same refl; goes = off refl; since = refl; beats = refl }

deliver_onward : (m : Message) (T : Tables) → Onward T (deliver m T)
unfolding deliver queue
deliver_onward m T = by_if (Onward T) (any (accepts m) T.threads) (λ _. wake_onward _ _ _ T) (λ _. same_front refl refl refl refl)

-- who is in the set lives no longer
removed_dead : (set : List ℕ) (n : ℕ) (T : Tables) → has n set ≡ true → live n (release set (remove set T)) ≡ false
unfolding release wake_those remove without_managers
removed_dead set n T h =
    names_mapped _ (put_name (λ t. misses set t.state) Ready (λ t. told_gone t.state)) n _
    ∙ names_mapped (without_managers set) (λ t. refl) n _
    ∙ zero_any (named n) _ (none_left (λ t. t.name) (λ m. has m set) (named n) n (λ t e. eqb-true n t.name e) h T.threads)

-- Ending is calm: who is left stands no further back.
pub end_calm : (n : ℕ) (T : Tables) → Calm T (end n T)
unfolding end release wake_those remove
end_calm n T = record { goes = gone T.runner refl; queue = λ m h. go m h (has m set) refl; since = refl; beats = refl }
  where
    set : List ℕ
    set = ended_set T.threads n

    gone : (r : Runner) → T.runner ≡ r → Goes T (end n T)
    gone NoRunner e = off (rw e)
    gone (Runs m s) e = dead (has m set) refl
      where
        dead : (b : Bool) → has m set ≡ b → Goes T (end n T)
        dead true h = off (rw (e, h))
        dead false h = on (rw (e, h))

    go : (m : ℕ) → has m T.ready ≡ true → (b : Bool) → has m set ≡ b → Stays m T (end n T)
    go m h true e = ended (removed_dead set m T e)
    go m h false e =
        let k = ahead_keep (λ x. not (has x set)) m T.ready (rw e) h in
        let p = longer_place m {q = (remove set T).ready} {r = (end n T).ready} (record { more = _; whole = refl }) k.0 in
        stays p.0 (omega (arith, k.1, p.1))

-- ---- each event but the tick

abbrev CalmTo : Tables → Outcome → Type 0
CalmTo T o = Calm T o.tables

still : (T : Tables) → Calm T T
still T = calm (same_front refl refl refl refl)

send_calm : (n to w : ℕ) (T : Tables) → Calm T (send n to w T)
unfolding send
send_calm n to w T = by_if (Calm T) (decides n to T) (λ _. decided w) (λ _. calm (deliver_onward _ T))
  where
    decided : (w : ℕ) → Calm T (decide n to w T)
    decided zero = unfold decide in calm (onward_trans (same_front refl refl refl refl) (wake_onward _ _ _ _))
    decided (suc w) = unfold decide in end_calm to T

create_calm : (p : Parent) (T : Tables) → CalmTo T (create p T)
unfolding create
create_calm p T = calm (record { longer = record { more = _; whole = refl }; goes = on refl; since = refl; beats = refl })

trap_calm : (n : ℕ) (k : TrapKind) (c : ℕ) (T : Tables) → Calm T (trap n k c T)
unfolding trap
trap_calm n k c T = go (of_thread Unset (λ t. manager k t.managers) n T.threads)
  where
    go : (m : Manager) → Calm T (by_manager (end n T) (λ to. deliver (notice to n c) (stop n (Trapped k) T)) m)
    go Unset = end_calm n T
    go (Set to) = calm (onward_trans (stop_onward n (Trapped k) T) (deliver_onward _ _))
    go Gone = end_calm n T

received_calm : (n : ℕ) (w : Wanted) (T : Tables) (p : Pulled Message) → CalmTo T (received n w T p)
unfolding received
received_calm n w T missing = calm (stop_onward n (Receiving w) T)
received_calm n w T (pulled m ms) = calm (same_front refl refl refl refl)

terminate_calm : (n : ℕ) (m : Target) (T : Tables) → CalmTo T (terminate n m T)
unfolding terminate
terminate_calm n Oneself T = end_calm n T
terminate_calm n (Named m) T = end_calm m T

set_calm : (old : Manager) (n : ℕ) (k : TrapKind) (m : ℕ) (T : Tables) → CalmTo T (set_over old n k m T)
unfolding set_over change
set_calm Unset n k m T = calm (same_front refl refl refl refl)
set_calm (Set o) n k m T = end_calm n T
set_calm Gone n k m T = end_calm n T

held_calm : (n d : ℕ) (T : Tables) (p : Pulled Held) → CalmTo T (take_held n d T p)
unfolding take_held
held_calm n d T missing = calm (stop_onward n (Device d) T)
held_calm n d T (pulled h hs) = calm (same_front refl refl refl refl)

pub serve_calm : (n : ℕ) (c : Call) (T : Tables) → Calm T (serve n T c).tables
unfolding serve receive wait_for_clock
serve_calm n (Send to w) T = send_calm n to w T
serve_calm n (Receive w) T = received_calm n w T _
serve_calm n CreateBrother T = create_calm _ T
serve_calm n CreateSon T = create_calm _ T
serve_calm n (Terminate m) T = terminate_calm n m T
serve_calm n (SetManager k m) T = set_calm _ n k m T
serve_calm n GetCpuTime T = still T
serve_calm n WaitForClock T = calm (onward_trans (stop_onward n Clock T) (same_front refl refl refl refl))
serve_calm n (WaitForIo d) T = held_calm n d T _
serve_calm n (Trap k c) T = trap_calm n k c T

-- An event other than a tick leaves the runner on or off, the time as it was, and who was ready no further back, if alive.
pub act_calm : (e : Event) (T : Tables) → is_tick e ≡ false → Calm T (act T e).tables
unfolding is_tick act interrupt
act_calm Malformed T h = still T
act_calm (ByRunner c) T h = serve_calm (me T.runner) c T
act_calm Tick T h = absurd (true≢false h)
act_calm (Interrupt d w) T h =
    by_if (Calm T) (any (waits_for d) T.threads) (λ _. calm (wake_onward _ _ _ T)) (λ _. calm (same_front refl refl refl refl))

-- ---- the rank of a ready thread: the ticks that are left before its turn, at most

unfoldable pub slice_left : Runner → ℕ
slice_left r = by_runner 0 (λ m s. s) r

-- a full slice for each that stands before it, and what is left of the runner's
unfoldable pub rank : ℕ → Tables → ℕ
rank n T = full_slice * ahead n T.ready + slice_left T.runner

-- n runs, has ended, or is ready with a rank of at most k
pub data Nearer (n k : ℕ) (T : Tables) : Type 0 where
  now : runs_as n T.runner ≡ true → Nearer n k T
  over : live n T ≡ false → Nearer n k T
  soon : has n T.ready ≡ true → rank n T ≤ k → Nearer n k T

nearer_le : {n j k : ℕ} {T : Tables} → Nearer n j T → j ≤ k → Nearer n k T
nearer_le (now r) le = now r
nearer_le (over d) le = over d
nearer_le (soon h p) le = soon h (omega arith)

-- a dispatch raises no rank, and takes no ended thread back
dispatch_nearer : (n : ℕ) (o : Outcome) → has n o.tables.ready ≡ true → Nearer n (rank n o.tables) (dispatch o).tables
unfolding any ahead rank slice_left runs_as change
dispatch_nearer n o h =
    by_dispatch (Nearer n (rank n o.tables)) o (λ m s _. soon h (omega arith)) (λ _ e. absurd (false≢true (rw e at h))) λ x q _ e.
    let i : has n (x ∷ q) ≡ true = rw e at h in
    ⊎_elim (λ k. now k.1) (λ k. soon (rw k.1 at i) (rw (e, k.1) (omega arith))) (same? n x)

dispatch_dead : (n : ℕ) (o : Outcome) → live n o.tables ≡ false → live n (dispatch o).tables ≡ false
dispatch_dead n o d =
    by_dispatch (λ U. live n U ≡ false) o (λ _ _ _. d) (λ _ _. d) (λ x q _ _. unfold change in
    turned_live (named x) (in_state Running Nothing) (λ t. refl) n o.tables.threads ∙ d)

-- An event other than a tick, with its dispatch: the rank of a ready thread does not rise, unless the thread runs or has ended.
pub act_nearer : (n : ℕ) (e : Event) (T : Tables) → is_tick e ≡ false → has n T.ready ≡ true →
    Nearer n (rank n T) (dispatch (act T e)).tables
act_nearer n e T d h = let c = act_calm e T d in go c.goes (c.queue n h)
  where
    lower : Goes T (act T e).tables → slice_left (act T e).tables.runner ≤ slice_left T.runner
    lower (on r) = omega (arith, ap slice_left r)
    lower (off r) = unfold slice_left in rw r (omega arith)

    go : Goes T (act T e).tables → Stays n T (act T e).tables → Nearer n (rank n T) (dispatch (act T e)).tables
    go g (ended i) = over (dispatch_dead n (act T e) i)
    go g (stays i le) = nearer_le (dispatch_nearer n (act T e) i) (unfold rank in omega (arith, lower g))

-- ---- the tick

charge_ready : (T : Tables) → (charge T).ready ≡ T.ready
unfolding charge change
charge_ready T = by_runs (λ (U : Tables). U.ready ≡ T.ready) T.runner (λ _. refl) (λ n s _. refl)

charge_slice : (T : Tables) → slice_left (charge T).runner ≡ slice_left T.runner - 1
unfolding charge slice_left
charge_slice T = by_runs (λ (U : Tables). slice_left U.runner ≡ slice_left T.runner - 1) T.runner (λ e. rw e) (λ n s e. rw e)

beat_longer : (T : Tables) → Longer T.ready (beat T).ready
unfolding beat wake_those
beat_longer T = by_if (λ (U : Tables). Longer T.ready U.ready) (T.since + 1 == beat_ticks)
    (λ _. record { more = T.clock; whole = refl }) (λ _. longer_same refl)

pub beat_runner : (T : Tables) → (beat T).runner ≡ T.runner
unfolding beat wake_those
beat_runner T = by_if (λ (U : Tables). U.runner ≡ T.runner) (T.since + 1 == beat_ticks) (λ _. refl) (λ _. refl)

rotate_longer : (T : Tables) → Longer T.ready (rotate T).ready
unfolding rotate wake_those
rotate_longer T =
    by_runs (λ (U : Tables). Longer T.ready U.ready) T.runner (λ _. longer_same refl)
    (λ n s _. by_if (λ (U : Tables). Longer T.ready U.ready) (s == 0) (λ _. record { more = n ∷ []; whole = refl })
    (λ _. longer_same refl))

rotate_slice : (T : Tables) → slice_left (rotate T).runner ≡ slice_left T.runner
unfolding rotate wake_those slice_left
rotate_slice T =
    by_runs (λ (U : Tables). slice_left U.runner ≡ slice_left T.runner) T.runner (λ _. refl)
    (λ n s e. by_if (λ (U : Tables). slice_left U.runner ≡ slice_left T.runner) (s == 0) (λ z. rw e (sym (eqb-true s 0 z)))
    (λ _. refl))

tick_longer : (T : Tables) → Longer T.ready (tick T).ready
unfolding tick
tick_longer T = longer_trans (longer_same (charge_ready T)) (longer_trans (beat_longer (charge T)) (rotate_longer (beat (charge T))))

tick_slice : (T : Tables) → slice_left (tick T).runner ≡ slice_left T.runner - 1
unfolding tick
tick_slice T = rotate_slice (beat (charge T)) ∙ ap slice_left (beat_runner (charge T)) ∙ charge_slice T

-- With a runner, a tick and its dispatch lower the rank of a ready thread, or the thread runs.
pub tick_nearer : (n : ℕ) (T : Tables) (a : Answer) → has n T.ready ≡ true → 1 ≤ slice_left T.runner →
    Nearer n (rank n T - 1) (dispatch (tick T handing a)).tables
unfolding rank
tick_nearer n T a h s =
    let p = longer_place n (tick_longer T) h in
    nearer_le (dispatch_nearer n (tick T handing a) p.0) (omega (arith, p.1, tick_slice T))
