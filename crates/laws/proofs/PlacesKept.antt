-- Every step keeps `Inv`: state, runner and queues agree, names are below 254, and there are no more threads than blocks for them.
use Rattle.std.proofs.Common.{if◌then◌else◌, ◌==◌}
use Prim.Native.Nat.{ℕ, zero, suc, ◌+◌, ◌<◌}
use mathlib.Core.Path.{◌≡◌, refl, sym, ap, ◌∙◌}
use mathlib.Core.Bool.{Bool, true, false, not}
use mathlib.Core.List.{List, map}
use native.Mathlib.Omega.{arith}
use lib.Dec.{ltb}
use lib.ListN.{length, length-map}
use borrow.Author.Tests.{eqb-true, leb-false}
use Rattle.rules.specs.Lists.{one_if, Pulled, missing, pulled, any, insert, has}
use Rattle.rules.specs.Numbers.{names, full_slice, beat_ticks}
use Rattle.laws.specs.Words.{Limits}
use Rattle.rules.specs.Words.{by_wanted, by_manager}
use Rattle.rules.specs.Tables.{Tables, in_state, with_managers, with_ticks, named, live, of_thread, change, manager, set_entry, new_thread}
use Rattle.rules.specs.Tables.{me}
use Rattle.rules.specs.States.{is_running, is_ready, on_clock, matches, receives, at_device, waits_for, trapped_on}
use Rattle.rules.specs.Waking.{Outcome, wake_those, wake_by_name, handed, accepts, queue, deliver, stop}
use Rattle.rules.specs.Ending.{ended_set, without_managers, remove, misses, release, end}
use Rattle.rules.specs.Send.{decides, decide, send}
use Rattle.rules.specs.Receive.{received, receive}
use Rattle.rules.specs.Trap.{notice, trap}
use Rattle.rules.specs.Tick.{one_more, charge, beat, rotate, tick}
use Rattle.rules.specs.Interrupt.{interrupt}
use Rattle.rules.specs.Requests.{next_name, create, terminate, set_over, wait_for_clock, take_held}
use Rattle.rules.specs.Dispatch.{dispatch}
use Rattle.rules.specs.Events.{decode}
use Rattle.rules.specs.Refusals.{first_of, call_rules, refusal}
use Rattle.rules.specs.Step.{serve, act, step}
use Rattle.laws.specs.Words.{Wanted, TrapKind, State, Running, Ready, Receiving, Clock, Device, Trapped, Answer, Nothing, Result}
use Rattle.laws.specs.Words.{Manager, Unset, Set, Gone, Parent, Thread, Message, Held, Runs, Target, Oneself, Named, Call, Send}
use Rattle.laws.specs.Words.{Receive, CreateBrother, CreateSon, Terminate, SetManager, GetCpuTime, WaitForClock, WaitForIo, Trap}
use Rattle.laws.specs.Words.{Event, Malformed, ByRunner, Tick, Interrupt}
use Rattle.laws.specs.Types.{Places, Agree, Inv}
use Rattle.laws.proofs.Tests.{by_if, by_runs, and_right}
use Rattle.laws.proofs.Tally.{count_length, length_count, count_insert, count_keep_le, length_keep, any_count, count_any, none_count}
use Rattle.laws.proofs.Threads.{names_kept, names_mapped, left, turned, turned_name, put_name}
use Rattle.laws.proofs.Steps.{passed, called, by_step, by_dispatch}
use Rattle.laws.proofs.Names.{name_low, name_free}
use Rattle.laws.proofs.Places.{Asleep, asleep, at_run, rouse_keeps, beat_keeps, rotate_keeps, stop_keeps, clock_keeps, run_keeps}
use Rattle.laws.proofs.Places.{same_keeps, slice_keeps, new_keeps, left_keeps}

-- ---- threads changed, with their names as they were

mapped : {L : Limits} {T U : Tables} (f : Thread → Thread) → ((t : Thread) → (f t).name ≡ t.name) → U.threads ≡ map f T.threads →
    U.last ≡ T.last → Agree U → Inv L T → Inv L U
mapped {L} {T} f h e l A I = record {
  agree = A;
  low = λ n k. I.low n (sym (names_mapped f h n T.threads) ∙ ap (any (named n)) (sym e) ∙ k);
  few = omega (arith, I.few, ap length e, length-map T.threads f);
  last = omega (arith, I.last);
}

-- the same threads
same_threads : {L : Limits} {T U : Tables} → U.threads ≡ T.threads → U.last ≡ T.last → Agree U → Inv L T → Inv L U
same_threads {L} {T} {U} e l A I = record { agree = A; low = λ n k. I.low n (rw e at k); few = rw e I.few; last = rw l I.last }

-- The runner is a live thread.
pub runner_live : {L : Limits} {T : Tables} → Inv L T → (n s : ℕ) → T.runner ≡ Runs n s → live n T ≡ true
runner_live {L} {T} I n s e =
    let P : Places T.threads (Runs n s) T.ready T.clock = rw e at I.agree in
    count_any (named n) T.threads (omega (arith, (at_run n s P).0))

-- ---- the moves that events share

-- those that are in no place become ready
pub rouse_inv : {L : Limits} {T : Tables} (p : Thread → Bool) (a : Thread → Answer) → ((t : Thread) → p t ≡ true → Asleep t.state) →
    Inv L T → Inv L (wake_by_name p a T)
unfolding wake_those
rouse_inv p a sleeps I =
    mapped (λ t. if p t then in_state Ready (a t) t else t) (put_name p Ready a) refl refl (rouse_keeps p a sleeps I.agree) I

pub deliver_inv : {L : Limits} {T : Tables} (m : Message) → Inv L T → Inv L (deliver m T)
unfolding deliver queue receives
deliver_inv {L} {T} m I =
    by_if (Inv L) (any (accepts m) T.threads)
    (λ _. rouse_inv (accepts m) (λ t. handed m)
    (λ t e. asleep (matches m.from) (λ d. false) (λ k. false) t.state (and_right (named m.to t) _ e)) I)
    (λ _. same_threads refl refl I.agree I)

-- the runner stops, in a state that has no place
pub stop_inv : {L : Limits} {T : Tables} (n s : ℕ) → T.runner ≡ Runs n s → (to : State) → Asleep to → Inv L T → Inv L (stop n to T)
unfolding stop change
stop_inv n s e to z I = mapped (λ t. if named n t then in_state to Nothing t else t) (put_name (named n) to (λ t. Nothing)) refl refl
    (stop_keeps n s to Nothing z (rw e at I.agree)) I

-- a thread is changed, and keeps its name and state
pub change_inv : {L : Limits} {T : Tables} (n : ℕ) (f : Thread → Thread) → ((t : Thread) → (f t).name ≡ t.name) →
    ((t : Thread) → (f t).state ≡ t.state) → Inv L T → Inv L (change n f T)
unfolding change
change_inv {L} {T} n f names states I =
    let k = turned_name (named n) f names in
    mapped (turned (named n) f) k refl refl
    (same_keeps (turned (named n) f) k (λ t. by_if (λ (u : Thread). u.state ≡ t.state) (named n t) (λ _. states t) (λ _. refl))
    I.agree) I

-- ---- ending

pub remove_inv : {L : Limits} {T : Tables} (set : List ℕ) → Inv L T → Inv L (remove set T)
unfolding remove
remove_inv {L} {T} set I = record {
  agree = left_keeps set I.agree;
  low = λ n e. I.low n (count_any (named n) T.threads
      (omega (
        arith,
        any_count (named n) _ e,
        names_kept (without_managers set) (λ t. unfold without_managers in
            refl) n (left set T.threads),
        count_keep_le (named n) (λ t. not (has t.name set)) T.threads,
      )));
  few = omega (
    arith,
    I.few,
    length-map (left set T.threads) (without_managers set),
    length_keep (λ t. not (has t.name set))
        T.threads,
    count_length (λ t. not (has t.name set)) T.threads,
  );
  last = I.last;
}

release_inv : {L : Limits} {T : Tables} (set : List ℕ) → Inv L T → Inv L (release set T)
unfolding release misses
release_inv {L} {T} set I = rouse_inv _ _ (λ t e. asleep (by_wanted false (λ n. has n set)) (λ d. false) (λ k. false) t.state e) I

-- Ending keeps the agreement, whoever ends.
pub end_inv : {L : Limits} {T : Tables} (n : ℕ) → Inv L T → Inv L (end n T)
unfolding end
end_inv {L} {T} n I = release_inv (ended_set T.threads n) (remove_inv (ended_set T.threads n) I)

-- ---- tick

pub charge_inv : {L : Limits} {T : Tables} → Inv L T → Inv L (charge T)
unfolding charge
charge_inv {L} {T} I =
    by_runs (Inv L) T.runner (λ _. I) λ n s e.
    unfold change in
    let J = change_inv n (λ t. with_ticks (one_more t.ticks) t) (λ t. refl) (λ t. refl) I in
    same_threads refl refl (slice_keeps n s _ (rw e at J.agree)) J

pub beat_inv : {L : Limits} {T : Tables} → Inv L T → Inv L (beat T)
unfolding beat wake_those
beat_inv {L} {T} I =
    by_if (Inv L) (T.since + 1 == beat_ticks)
    (λ _. mapped _ (put_name (λ t. on_clock t.state) Ready _) refl refl (beat_keeps _ I.agree) I)
    (λ _. same_threads refl refl I.agree I)

rotate_inv : {L : Limits} {T : Tables} → Inv L T → Inv L (rotate T)
unfolding rotate wake_those
rotate_inv {L} {T} I =
    by_runs (Inv L) T.runner (λ _. I) λ n s e.
    by_if (Inv L) (s == 0)
    (λ _. mapped (λ t. if named n t then in_state Ready Nothing t else t) (put_name (named n) Ready (λ t. Nothing)) refl refl
    (rotate_keeps n s Nothing (rw e at I.agree)) I)
    (λ _. I)

pub tick_inv : {L : Limits} {T : Tables} → Inv L T → Inv L (tick T)
unfolding tick
tick_inv I = rotate_inv (beat_inv (charge_inv I))

-- ---- the other events

pub send_inv : {L : Limits} {T : Tables} (me to w : ℕ) → Inv L T → Inv L (send me to w T)
unfolding send
send_inv {L} {T} me to w I = by_if (Inv L) (decides me to T) (λ _. decided w) (λ _. deliver_inv _ I)
  where
    decided : (w : ℕ) → Inv L (decide me to w T)
    decided zero =
        unfold decide trapped_on in
        rouse_inv _ _ (λ t e. asleep (λ w. false) (λ d. false) (λ k. by_manager false (λ m. me == m) (manager k t.managers)) t.state
        (and_right (named to t) _ e)) (same_threads refl refl I.agree I)
    decided (suc w) = unfold decide in end_inv to I

pub interrupt_inv : {L : Limits} {T : Tables} (d w : ℕ) → Inv L T → Inv L (interrupt d w T)
unfolding interrupt at_device
interrupt_inv {L} {T} d w I =
    by_if (Inv L) (any (waits_for d) T.threads)
    (λ _. rouse_inv (waits_for d) (λ t. Result w) (λ t e. asleep (λ w. false) (λ x. d == x) (λ k. false) t.state e) I)
    (λ _. same_threads refl refl I.agree I)

pub create_inv : {L : Limits} {T : Tables} (p : Parent) → L.threads < names → length T.threads < L.threads → Inv L T →
    Inv L (create p T).tables
unfolding create
create_inv {L} {T} p l room I = record {
  agree = new_keeps n new (λ t. ltb t.name n) refl refl (none_count (named n) T.threads (name_free L T l I.last I.few))
      I.agree;
  low = λ m e. go m (m == n) refl e;
  few = omega (
    arith,
    length_count T.threads,
    length_count (insert (λ t. ltb t.name n) new T.threads),
    count_insert (λ t. true)
        (λ t. ltb t.name n) new T.threads,
  );
  last = name_low T;
}
  where
    n : ℕ
    n = next_name T

    new : Thread
    new = new_thread n p Ready

    go : (m : ℕ) (b : Bool) → (m == n) ≡ b → any (named m) (insert (λ t. ltb t.name n) new T.threads) ≡ true → m < names
    go m true i e = omega (arith, eqb-true m n i, name_low T)
    go m false i e = I.low m (count_any (named m) T.threads
        (omega (arith, any_count (named m) _ e, count_insert (named m) (λ t. ltb t.name n) new T.threads, ap one_if i)))

abbrev pub Kept : Limits → Outcome → Type 0
Kept L o = Inv L o.tables

module _ {L : Limits} {T : Tables} (n s : ℕ) (runs_now : T.runner ≡ Runs n s) (I : Inv L T) where
  received_inv : (w : Wanted) (p : Pulled Message) → Kept L (received n w T p)
  unfolding received is_running is_ready on_clock
  received_inv w missing = stop_inv n s runs_now (Receiving w) (refl, refl, refl) I
  received_inv w (pulled m ms) = same_threads refl refl I.agree I

  trap_inv : (k : TrapKind) (c : ℕ) → Inv L (trap n k c T)
  unfolding trap is_running is_ready on_clock
  trap_inv k c = go (of_thread Unset (λ t. manager k t.managers) n T.threads)
    where
      go : (m : Manager) → Inv L (by_manager (end n T) (λ to. deliver (notice to n c) (stop n (Trapped k) T)) m)
      go Unset = end_inv n I
      go (Set to) = deliver_inv (notice to n c) (stop_inv n s runs_now (Trapped k) (refl, refl, refl) I)
      go Gone = end_inv n I

  terminate_inv : (m : Target) → Kept L (terminate n m T)
  unfolding terminate
  terminate_inv Oneself = end_inv n I
  terminate_inv (Named m) = end_inv m I

  set_inv : (old : Manager) (k : TrapKind) (m : ℕ) → Kept L (set_over old n k m T)
  unfolding set_over
  set_inv Unset k m = change_inv n (λ t. with_managers (set_entry k (Set m) t.managers) t) (λ t. refl) (λ t. refl) I
  set_inv (Set o) k m = end_inv n I
  set_inv Gone k m = end_inv n I

  clock_inv : Kept L (wait_for_clock n T)
  unfolding wait_for_clock stop change
  clock_inv = mapped (λ t. if named n t then in_state Clock Nothing t else t) (put_name (named n) Clock (λ t. Nothing)) refl refl
      (clock_keeps n s Nothing (rw runs_now at I.agree)) I

  held_inv : (d : ℕ) (p : Pulled Held) → Kept L (take_held n d T p)
  unfolding take_held is_running is_ready on_clock
  held_inv d missing = stop_inv n s runs_now (Device d) (refl, refl, refl) I
  held_inv d (pulled h hs) = same_threads refl refl I.agree I

  -- a call of the runner that is not refused
  pub serve_inv : (c : Call) → L.threads < names → first_of (call_rules L T n c) ≡ 0 → Kept L (serve n T c)
  unfolding serve call_rules receive
  serve_inv (Send to w) l f = send_inv n to w I
  serve_inv (Receive w) l f = received_inv w _
  serve_inv CreateBrother l f = create_inv _ l (leb-false L.threads (length T.threads) (passed _ 5 _ (passed _ 6 _ f).1).0) I
  serve_inv CreateSon l f = create_inv _ l (leb-false L.threads (length T.threads) (passed _ 5 _ f).0) I
  serve_inv (Terminate m) l f = terminate_inv m
  serve_inv (SetManager k m) l f = set_inv _ k m
  serve_inv GetCpuTime l f = I
  serve_inv WaitForClock l f = clock_inv
  serve_inv (WaitForIo d) l f = held_inv d _
  serve_inv (Trap k c) l f = trap_inv k c

-- ---- the step

-- An event that is not refused keeps the agreement.
pub act_inv : {L : Limits} {T : Tables} (e : Event) → L.threads < names → refusal L T e ≡ 0 → Inv L T → Inv L (act T e).tables
unfolding act
act_inv Malformed l f I = I
act_inv {L} {T} (ByRunner c) l f I =
    let r = called L T c f in
    rw r.caller (serve_inv r.name r.slice r.runner I c l r.passes)
act_inv Tick l f I = tick_inv I
act_inv (Interrupt d w) l f I = interrupt_inv d w I

-- So does a dispatch.
pub dispatch_inv : {L : Limits} (o : Outcome) → Inv L o.tables → Inv L (dispatch o).tables
dispatch_inv {L} o I =
    by_dispatch (Inv L) o (λ n s r. I) (λ r e. I) λ n q r e.
    unfold change in
    mapped (λ t. if named n t then in_state Running Nothing t else t) (put_name (named n) Running (λ t. Nothing)) refl refl
    (run_keeps n full_slice Nothing (rw (r, e) at I.agree)) I

-- Every step, accepted or refused, keeps the agreement of state, runner and queues, names below 254, and the number of threads.
pub step_inv : {L : Limits} {T : Tables} (bytes : List ℕ) → L.threads < names → Inv L T → Inv L (step L T bytes).tables
step_inv {L} {T} bytes l I = by_step (λ U b. Inv L U) L T bytes I (λ f. dispatch_inv (act T (decode bytes)) (act_inv (decode bytes) l f I))
