-- Whatever is handed over has its cause, kind by kind: a message or notice was sent to this thread in its present life, "sender
-- gone" was told to one that waited for the ended, and a result is that of this thread's own request in its present life.
-- A rule that gives a newcomer a word which was meant for an ended thread is refused here: the newcomer has asked for nothing.
use Rattle.std.proofs.Common.{if◌then◌else◌, ◌==◌}
use Prim.Native.Nat.{ℕ, zero, suc, ◌+◌, ◌≤◌, ◌<◌}
use mathlib.Core.Path.{◌≡◌, refl, sym, ap, ◌∙◌, subst}
use mathlib.Core.Logic.{◌⊎◌, inl, inr, ⊎_elim}
use mathlib.Core.Bool.{Bool, true, false, false≢true}
use mathlib.Core.List.{List, [], ◌∷◌, ◌++◌, map, append-nil, append_assoc, Memᴰ}
use native.Mathlib.Omega.{arith}
use lib.Dec.{ltb}
use borrow.Author.Tests.{eqb-true, eq-eqb}
use Rattle.rules.specs.Lists.{one_if, any, count, Pulled, missing, pulled, pull}
use Rattle.rules.specs.Numbers.{names, full_slice, beat_ticks}
use Rattle.laws.specs.Words.{Limits}
use Rattle.rules.specs.Words.{by_manager, by_runner}
use Rattle.rules.specs.Tables.{Tables, with_time, with_clock, with_messages, in_state, with_ticks, with_managers, named, live, of_thread}
use Rattle.rules.specs.Tables.{change, manager, set_entry, new_thread, me, start}
use Rattle.rules.specs.States.{is_ready, on_clock, at_device, waits_for}
use Rattle.rules.specs.Waking.{Outcome, wake_those, handed_as, handed, accepts, queue, deliver, stop}
use Rattle.rules.specs.Ending.{ended_set, misses, end}
use Rattle.rules.specs.Send.{message, waits_for_decision, decides, decide, send}
use Rattle.rules.specs.Receive.{wanted_by, received, receive}
use Rattle.rules.specs.Trap.{notice, trap}
use Rattle.rules.specs.Tick.{one_more, charge, beat, rotate, tick}
use Rattle.rules.specs.Interrupt.{held_for, interrupt}
use Rattle.rules.specs.Requests.{next_name, create, terminate, set_over, wait_for_clock, take_held}
use Rattle.rules.specs.Dispatch.{run_next, dispatch}
use Rattle.rules.specs.Events.{decode}
use Rattle.rules.specs.Refusals.{refusal}
use Rattle.rules.specs.Step.{serve, act, Stepped, decided, settle, step}
use Rattle.rules.specs.Runs.{Input, run}
use Rattle.laws.specs.Words.{State, Running, Ready, Receiving, Clock, Device, Trapped, Answer, Nothing, FromMessage, FromNotice}
use Rattle.laws.specs.Words.{SenderGone, Result, Manager, Unset, Set, Gone, Parent, Thread, MessageKind, Ordinary, Notice, Message}
use Rattle.laws.specs.Words.{Held, Runner, NoRunner, Runs, Oneself, Named, Call, Send, Receive, CreateBrother, CreateSon, Terminate}
use Rattle.laws.specs.Words.{SetManager, GetCpuTime, WaitForClock, WaitForIo, Trap, Event, Malformed, ByRunner, Tick, Interrupt}
use Rattle.laws.specs.Handed.{ResultOf, of_brother, of_son, of_manager, of_count, of_held, Answers, Wakes, a_beat, a_status, Woken}
use Rattle.laws.specs.Handed.{woke, waits, Asked, at_once, woken, WokenBy, AskedIn, Cause, no_answer, a_message, a_notice}
use Rattle.laws.specs.Handed.{sender_gone, a_result}
use Rattle.laws.specs.Types.{Ruled}
use Rattle.laws.specs.Ending.{Survives}
use Rattle.laws.specs.Late.{from_a_thread}
use Rattle.laws.proofs.Tests.{by_if, by_runs, clash}
use Rattle.laws.proofs.Tally.{zero_any}
use Rattle.laws.proofs.Members.{mem_insert, mem_map, last_same}
use Rattle.laws.proofs.Ordered.{pull_took}
use Rattle.laws.proofs.Threads.{member_live, looked_up}
use Rattle.laws.proofs.Steps.{called, by_dispatch, run_append, run_last}
use Rattle.laws.proofs.PlacesKept.{runner_live}
use Rattle.laws.proofs.Kept.{run_ruled, start_ruled}
use Rattle.laws.proofs.Ending.{missed, receiver_misses, origins}
use Rattle.laws.proofs.Passing.{decision_runner}
use Rattle.laws.proofs.Late.{last_since, handed_was_owed, gone_was_waited_for}

-- ---- states and answers by their tests

clock_state : (s : State) → on_clock s ≡ true → s ≡ Clock
unfolding on_clock
clock_state Running h = absurd (false≢true h)
clock_state Ready h = absurd (false≢true h)
clock_state (Receiving w) h = absurd (false≢true h)
clock_state Clock h = refl
clock_state (Device d) h = absurd (false≢true h)
clock_state (Trapped k) h = absurd (false≢true h)

device_state : (d : ℕ) (s : State) → at_device d s ≡ true → s ≡ Device d
unfolding at_device
device_state d Running h = absurd (false≢true h)
device_state d Ready h = absurd (false≢true h)
device_state d (Receiving w) h = absurd (false≢true h)
device_state d Clock h = absurd (false≢true h)
device_state d (Device e) h = ap Device (sym (eqb-true d e h))
device_state d (Trapped k) h = absurd (false≢true h)

-- a thread with a result is ready: the others have no answer
result_ready : (s : State) (a : Answer) (w : ℕ) → (is_ready s ≡ false → a ≡ Nothing) → a ≡ Result w → s ≡ Ready
unfolding is_ready
result_ready Running a w h e = let k = h refl in absurd (let z : ◌≡◌ {A = ℕ} 0 1 = cc in omega arith)
result_ready Ready a w h e = refl
result_ready (Receiving x) a w h e = let k = h refl in absurd (let z : ◌≡◌ {A = ℕ} 0 1 = cc in omega arith)
result_ready Clock a w h e = let k = h refl in absurd (let z : ◌≡◌ {A = ℕ} 0 1 = cc in omega arith)
result_ready (Device d) a w h e = let k = h refl in absurd (let z : ◌≡◌ {A = ℕ} 0 1 = cc in omega arith)
result_ready (Trapped x) a w h e = let k = h refl in absurd (let z : ◌≡◌ {A = ℕ} 0 1 = cc in omega arith)

none_is_no_result : {w : ℕ} → Nothing ≡ Result w → ⊥
none_is_no_result e = let z : ◌≡◌ {A = ℕ} 0 1 = cc in omega arith

message_is_no_result : (m : Message) {w : ℕ} → handed m ≡ Result w → ⊥
unfolding handed_as
message_is_no_result m {w} = go m.kind
  where
    go : (k : MessageKind) → handed_as k m.from m.word ≡ Result w → ⊥
    go Ordinary e = let z : ◌≡◌ {A = ℕ} 0 1 = cc in omega arith
    go Notice e = let z : ◌≡◌ {A = ℕ} 0 1 = cc in omega arith

-- ---- the results that wait

-- P says which results may wait for which name. It holds of every thread whose answer is a result.
record Waiting (P : ℕ → ℕ → Type 0) (ts : List Thread) : Type 0 where
  result : (t : Thread) → Memᴰ t ts → (w : ℕ) → t.answer ≡ Result w → P t.name w

module _ (P : ℕ → ℕ → Type 0) where
  waiting_map : (g : Thread → Thread) {ts : List Thread} →
      ((t : Thread) → Memᴰ t ts → (w : ℕ) → (g t).answer ≡ Result w → P (g t).name w) → Waiting P (map g ts)
  waiting_map g {ts} h = record {
    result = λ u m w e. let r = mem_map g ts m in
        subst (λ (x : Thread). P x.name w) (sym r.2) (h r.0 r.1 w (ap (λ (x : Thread). x.answer) (sym r.2) ∙ e));
  }

  waiting_some : (p : Thread → Bool) (f : Thread → Thread) {ts : List Thread} →
      ((t : Thread) → Memᴰ t ts → p t ≡ true → (w : ℕ) → (f t).answer ≡ Result w → P (f t).name w) → Waiting P ts →
      Waiting P (map (λ t. if p t then f t else t) ts)
  waiting_some p f h H = waiting_map (λ t. if p t then f t else t)
      (λ t m w. by_if (λ (u : Thread). u.answer ≡ Result w → P u.name w) (p t) (λ e. h t m e w) (λ _. H.result t m w))

  waiting_wake : (p : Thread → Bool) (a : Thread → Answer) (ns : List ℕ) (T : Tables) →
      ((t : Thread) → Memᴰ t T.threads → p t ≡ true → (w : ℕ) → a t ≡ Result w → P t.name w) → Waiting P T.threads →
      Waiting P (wake_those p a ns T).threads
  unfolding wake_those
  waiting_wake p a ns T h H = waiting_some p (λ t. in_state Ready (a t) t) h H

  waiting_change : (n : ℕ) (f : Thread → Thread) (T : Tables) →
      ((t : Thread) → Memᴰ t T.threads → (w : ℕ) → (f t).answer ≡ Result w → P (f t).name w) → Waiting P T.threads →
      Waiting P (change n f T).threads
  unfolding change
  waiting_change n f T h H = waiting_some (named n) f (λ t m _. h t m) H

  waiting_stop : (n : ℕ) (s : State) (T : Tables) → Waiting P T.threads → Waiting P (stop n s T).threads
  unfolding stop
  waiting_stop n s T H = waiting_change n (in_state s Nothing) T (λ t m w e. absurd (none_is_no_result e)) H

  waiting_deliver : (m : Message) (T : Tables) → Waiting P T.threads → Waiting P (deliver m T).threads
  unfolding deliver queue
  waiting_deliver m T H =
      by_if (λ (U : Tables). Waiting P U.threads) (any (accepts m) T.threads)
      (λ _. waiting_wake (accepts m) (λ t. handed m) _ T (λ t i a w e. absurd (message_is_no_result m e)) H)
      (λ _. H)

  waiting_end : (x : ℕ) (T : Tables) → Waiting P T.threads → Waiting P (end x T).threads
  waiting_end x T H = record {
    result = λ u i w e. let r = origins x T u i in
        go u r.0 w e r.1 r.3 (misses (ended_set T.threads x) r.0.state) refl;
  }
    where
      go : (u t : Thread) (w : ℕ) → u.answer ≡ Result w → Memᴰ t T.threads → Survives (ended_set T.threads x) t u → (b : Bool) →
          misses (ended_set T.threads x) t.state ≡ b → P u.name w
      go u t w e m S true h = absurd (let k = missed (ended_set T.threads x) t.state h in let j = (S.told k.0 k.1 k.2).1 in
          let z : ◌≡◌ {A = ℕ} 0 1 = cc in omega arith)
      go u t w e m S false h = rw S.name (H.result t m w (sym (S.same (λ n i. sym (receiver_misses _ n i) ∙ h)).1 ∙ e))

  -- ---- the tick and the interrupt

  waiting_charge : (T : Tables) → Waiting P T.threads → Waiting P (charge T).threads
  unfolding charge
  waiting_charge T H =
      by_runs (λ (U : Tables). Waiting P U.threads) T.runner (λ _. H)
      (λ n s _. waiting_change n (λ t. with_ticks (one_more t.ticks) t) T (λ t m w e. H.result t m w e) H)

  waiting_beat : (T : Tables) → ((t : Thread) → Memᴰ t T.threads → t.state ≡ Clock → T.since + 1 ≡ beat_ticks →
      P t.name (one_more T.beats)) → Waiting P T.threads → Waiting P (beat T).threads
  unfolding beat
  waiting_beat T h H =
      by_if (λ (U : Tables). Waiting P U.threads) (T.since + 1 == beat_ticks)
      (λ e. waiting_wake (λ t. on_clock t.state) (λ t. Result (one_more T.beats)) T.clock
      (with_clock [] (with_time 0 (one_more T.beats) T))
      (λ t m i w j. let k : one_more T.beats ≡ w = cc in
      subst (P t.name) k (h t m (clock_state t.state i) (eqb-true (T.since + 1) beat_ticks e))) H)
      (λ _. H)

  waiting_rotate : (T : Tables) → Waiting P T.threads → Waiting P (rotate T).threads
  unfolding rotate
  waiting_rotate T H =
      by_runs (λ (U : Tables). Waiting P U.threads) T.runner (λ _. H)
      (λ n s _. by_if (λ (U : Tables). Waiting P U.threads) (s == 0)
      (λ _. waiting_wake (named n) (λ t. Nothing) (n ∷ []) T (λ t m i w e. absurd (none_is_no_result e)) H) (λ _. H))

-- the charge changes no name and no state, and no time
charge_origin : (T : Tables) (u : Thread) → Memᴰ u (charge T).threads → (t : Thread) × Memᴰ t T.threads × (u.name ≡ t.name)
    × (u.state ≡ t.state)
unfolding charge change
charge_origin T u = by_runs (λ (U : Tables). Memᴰ u U.threads → (t : Thread) × Memᴰ t T.threads × (u.name ≡ t.name)
    × (u.state ≡ t.state)) T.runner (λ _ m. (u, m, refl, refl)) (λ n s _ m. go n m)
  where
    f : Thread → Thread
    f t = with_ticks (one_more t.ticks) t

    go : (n : ℕ) → Memᴰ u (map (λ t. if named n t then f t else t) T.threads) → (t : Thread) × Memᴰ t T.threads
        × (u.name ≡ t.name) × (u.state ≡ t.state)
    go n m =
        let r = mem_map (λ t. if named n t then f t else t) T.threads m in (
          r.0,
          r.1,
          ap (λ (x : Thread). x.name) r.2 ∙ by_if (λ (x : Thread). x.name ≡ r.0.name) (named n r.0) (λ _. refl) (λ _. refl),
          ap (λ (x : Thread). x.state) r.2 ∙ by_if (λ (x : Thread). x.state ≡ r.0.state) (named n r.0) (λ _. refl) (λ _. refl),
        )

charge_time : (T : Tables) → ((charge T).since ≡ T.since) × ((charge T).beats ≡ T.beats)
unfolding charge change
charge_time T =
    by_runs (λ (U : Tables). (U.since ≡ T.since) × (U.beats ≡ T.beats)) T.runner (λ _. (refl, refl)) (λ n s _. (refl, refl))

-- the beat number after a tick that is a twentieth
struck : (T : Tables) → T.since + 1 ≡ beat_ticks → (tick T).beats ≡ one_more T.beats
unfolding tick
struck T h = turned (beat (charge T)) ∙ beaten (charge T) (ap (λ (n : ℕ). n + 1) (charge_time T).0 ∙ h) ∙ ap one_more (charge_time T).1
  where
    beaten : (U : Tables) → U.since + 1 ≡ beat_ticks → (beat U).beats ≡ one_more U.beats
    beaten U e = unfold beat wake_those in rw (eq-eqb (U.since + 1) beat_ticks e)

    turned : (U : Tables) → (rotate U).beats ≡ U.beats
    turned U = unfold rotate wake_those in
        by_runs (λ (W : Tables). W.beats ≡ U.beats) U.runner (λ _. refl)
        (λ n s _. by_if (λ (W : Tables). W.beats ≡ U.beats) (s == 0) (λ _. refl) (λ _. refl))

module _ (P : ℕ → ℕ → Type 0) where
  waiting_tick : (T : Tables) → ((t : Thread) → Memᴰ t T.threads → (w : ℕ) → Wakes T (tick T).beats Tick t.state w →
      P t.name w) → Waiting P T.threads → Waiting P (tick T).threads
  unfolding tick
  waiting_tick T h H = waiting_rotate P (beat (charge T)) (waiting_beat P (charge T) beats (waiting_charge P T H))
    where
      beats : (u : Thread) → Memᴰ u (charge T).threads → u.state ≡ Clock → (charge T).since + 1 ≡ beat_ticks →
          P u.name (one_more (charge T).beats)
      beats u m c s =
          let r = charge_origin T u m in
          let e : T.since + 1 ≡ beat_ticks = ap (λ (n : ℕ). n + 1) (sym (charge_time T).0) ∙ s in
          let b : (tick T).beats ≡ one_more (charge T).beats = struck T e ∙ ap one_more (sym (charge_time T).1) in
          rw r.2 (subst (P r.0.name) b (h r.0 r.1 (tick T).beats (a_beat (sym r.3 ∙ c) e)))

  waiting_interrupt : (d w : ℕ) (T : Tables) → ((t : Thread) → Memᴰ t T.threads → t.state ≡ Device d → P t.name w) →
      Waiting P T.threads → Waiting P (interrupt d w T).threads
  unfolding interrupt
  waiting_interrupt d w T h H =
      by_if (λ (U : Tables). Waiting P U.threads) (any (waits_for d) T.threads)
      (λ _. waiting_wake P (waits_for d) (λ t. Result w) _ T (λ t m i x e. let k : w ≡ x = cc in
      subst (P t.name) k (h t m (device_state d t.state i))) H)
      (λ _. H)

  -- ---- calls: none makes a result wait

  -- a newcomer has no answer
  waiting_create : (p : Parent) (T : Tables) → Waiting P T.threads → Waiting P (create p T).tables.threads
  unfolding create
  waiting_create p T H = record {
    result = λ u m w e. ⊎_elim (λ i. absurd (none_is_no_result (ap (λ (x : Thread). x.answer) (sym i) ∙ e))) (λ i. H.result u i w e)
        (mem_insert (λ t. ltb t.name (next_name T)) (new_thread (next_name T) p Ready) T.threads m);
  }

  waiting_send : (s to w : ℕ) (T : Tables) → Waiting P T.threads → Waiting P (send s to w T).threads
  unfolding send
  waiting_send s to w T H =
      by_if (λ (U : Tables). Waiting P U.threads) (decides s to T) (λ _. go w) (λ _. waiting_deliver P (message to s w) T H)
    where
      go : (w : ℕ) → Waiting P (decide s to w T).threads
      go zero = unfold decide in
          waiting_wake P (waits_for_decision s to) (λ t. Nothing) _ (with_messages _ T) (λ t m i x e. absurd (none_is_no_result e)) H
      go (suc w) = unfold decide in waiting_end P to T H

  waiting_serve : (s : ℕ) (T : Tables) (c : Call) → Waiting P T.threads → Waiting P (serve s T c).tables.threads
  unfolding serve receive wait_for_clock terminate
  waiting_serve s T (Send to w) H = waiting_send s to w T H
  waiting_serve s T (Receive w) H = go (pull (wanted_by s w) T.messages)
    where
      go : (r : Pulled Message) → Waiting P (received s w T r).tables.threads
      go missing = unfold received in waiting_stop P s (Receiving w) T H
      go (pulled m ms) = unfold received in H
  waiting_serve s T CreateBrother H = waiting_create _ T H
  waiting_serve s T CreateSon H = waiting_create _ T H
  waiting_serve s T (Terminate Oneself) H = waiting_end P s T H
  waiting_serve s T (Terminate (Named n)) H = waiting_end P n T H
  waiting_serve s T (SetManager k n) H = go (of_thread Unset (λ t. manager k t.managers) s T.threads)
    where
      go : (m : Manager) → Waiting P (set_over m s k n T).tables.threads
      go Unset = unfold set_over in
          waiting_change P s (λ t. with_managers (set_entry k (Set n) t.managers) t) T (λ t m w e. H.result t m w e) H
      go (Set m) = unfold set_over in waiting_end P s T H
      go Gone = unfold set_over in waiting_end P s T H
  waiting_serve s T GetCpuTime H = H
  waiting_serve s T WaitForClock H = waiting_stop P s Clock T H
  waiting_serve s T (WaitForIo d) H = go (pull (held_for d) T.held)
    where
      go : (r : Pulled Held) → Waiting P (take_held s d T r).tables.threads
      go missing = unfold take_held in waiting_stop P s (Device d) T H
      go (pulled h hs) = unfold take_held in H
  waiting_serve s T (Trap k c) H = unfold trap in go (of_thread Unset (λ t. manager k t.managers) s T.threads)
    where
      go : (m : Manager) → Waiting P (by_manager (end s T) (λ n. deliver (notice n s c) (stop s (Trapped k) T)) m).threads
      go Unset = waiting_end P s T H
      go (Set n) = waiting_deliver P (notice n s c) (stop s (Trapped k) T) (waiting_stop P s (Trapped k) T H)
      go Gone = waiting_end P s T H

  waiting_act : (T : Tables) (e : Event) →
      ((t : Thread) → Memᴰ t T.threads → (w : ℕ) → Wakes T (act T e).tables.beats e t.state w → P t.name w) →
      Waiting P T.threads → Waiting P (act T e).tables.threads
  unfolding act
  waiting_act T Malformed h H = H
  waiting_act T (ByRunner c) h H = waiting_serve (me T.runner) T c H
  waiting_act T Tick h H = waiting_tick T h H
  waiting_act T (Interrupt d w) h H = waiting_interrupt d w T (λ t m i. h t m w (a_status i)) H

  waiting_dispatch : (o : Outcome) → Waiting P o.tables.threads → Waiting P (dispatch o).tables.threads
  waiting_dispatch o H =
      by_dispatch (λ (U : Tables). Waiting P U.threads) o (λ _ _ _. H) (λ _ _. H)
      (λ n q _ _. waiting_change P n (in_state Running Nothing) o.tables (λ t m w e. absurd (none_is_no_result e)) H)

-- ---- the result that is handed over

-- a call that has a result at once leaves the runner running
serve_hands : (s : ℕ) (T : Tables) (c : Call) (w : ℕ) → ((d : ℕ) → count (held_for d) T.held ≤ 1) → (serve s T c).answer ≡ Result w →
    ((serve s T c).tables.runner ≡ T.runner) × ResultOf T (serve s T c).tables.held s c w
unfolding serve receive terminate wait_for_clock
serve_hands s T (Send to w) x o e = absurd (none_is_no_result e)
serve_hands s T (Receive v) x o e = go (pull (wanted_by s v) T.messages) refl e
  where
    go : (r : Pulled Message) → pull (wanted_by s v) T.messages ≡ r → (received s v T r).answer ≡ Result x →
        ((received s v T r).tables.runner ≡ T.runner) × ResultOf T (received s v T r).tables.held s (Receive v) x
    go missing i j = unfold received in absurd (none_is_no_result j)
    go (pulled m ms) i j = unfold received in absurd (message_is_no_result m j)
serve_hands s T CreateBrother x o e = unfold create in let k : next_name T ≡ x = cc in
    subst (λ (n : ℕ). (T.runner ≡ T.runner) × ResultOf T T.held s CreateBrother n) k (refl, of_brother)
serve_hands s T CreateSon x o e = unfold create in let k : next_name T ≡ x =
    cc in subst (λ (n : ℕ). (T.runner ≡ T.runner) × ResultOf T T.held s CreateSon n) k (refl, of_son)
serve_hands s T (Terminate Oneself) x o e = absurd (none_is_no_result e)
serve_hands s T (Terminate (Named n)) x o e = absurd (none_is_no_result e)
serve_hands s T (SetManager k n) x o e = go (of_thread Unset (λ t. manager k t.managers) s T.threads) refl e
  where
    go : (m : Manager) → of_thread Unset (λ t. manager k t.managers) s T.threads ≡ m → (set_over m s k n T).answer ≡ Result x →
        ((set_over m s k n T).tables.runner ≡ T.runner) × ResultOf T (set_over m s k n T).tables.held s (SetManager k n) x
    go Unset i j = unfold set_over change in let z : 0 ≡ x =
        cc in subst (λ (y : ℕ). (T.runner ≡ T.runner) × ResultOf T T.held s (SetManager k n) y) z (refl, of_manager i)
    go (Set m) i j = unfold set_over in absurd (none_is_no_result j)
    go Gone i j = unfold set_over in absurd (none_is_no_result j)
serve_hands s T GetCpuTime x o e = let k : of_thread 0 (λ t. t.ticks) s T.threads ≡ x = cc in
    subst (λ (n : ℕ). (T.runner ≡ T.runner) × ResultOf T T.held s GetCpuTime n) k (refl, of_count)
serve_hands s T WaitForClock x o e = absurd (none_is_no_result e)
serve_hands s T (WaitForIo d) x o e = go (pull (held_for d) T.held) refl e
  where
    go : (r : Pulled Held) → pull (held_for d) T.held ≡ r → (take_held s d T r).answer ≡ Result x →
        ((take_held s d T r).tables.runner ≡ T.runner) × ResultOf T (take_held s d T r).tables.held s (WaitForIo d) x
    go missing i j = unfold take_held in absurd (none_is_no_result j)
    go (pulled h hs) i j =
        unfold take_held in
        let z : h.word ≡ x = cc in
        let t = pull_took (held_for d) T.held i in
        let none : any (held_for d) hs ≡ false =
        zero_any (held_for d) hs (omega (arith, o d, t.each (held_for d), ap one_if t.passes)) in
        subst (λ (y : ℕ). (T.runner ≡ T.runner) × ResultOf T hs s (WaitForIo d) y) z
        (refl, of_held h t.from (eqb-true h.device d t.passes) none)
serve_hands s T (Trap k c) x o e = absurd (none_is_no_result e)

-- dispatch hands over what the event did, or what waited for the front of the ready queue
dispatch_hands : (o : Outcome) (w : ℕ) → (dispatch o).answer ≡ Result w →
    ((o.answer ≡ Result w) × ((dispatch o).tables ≡ o.tables))
    ⊎ ((t : Thread) × Memᴰ t o.tables.threads × (t.answer ≡ Result w) × ((dispatch o).tables.runner ≡ Runs t.name full_slice))
unfolding dispatch
dispatch_hands o w = go o.tables.runner o.tables.ready
  where
    D : Outcome → Type 0
    D x = ((o.answer ≡ Result w) × (x.tables ≡ o.tables))
        ⊎ ((t : Thread) × Memᴰ t o.tables.threads × (t.answer ≡ Result w) × (x.tables.runner ≡ Runs t.name full_slice))

    go : (r : Runner) (q : List ℕ) → (by_runner (run_next q o) (λ n s. o) r).answer ≡ Result w → D (by_runner (run_next q o) (λ n s. o) r)
    go (Runs n s) q e = inl (e, refl)
    go NoRunner [] e = unfold run_next in inl (e, refl)
    go NoRunner (n ∷ q) e = unfold run_next in
        ⊎_elim (λ i. absurd (none_is_no_result (sym i ∙ e)))
        (λ r. inr (r.0, r.1, sym r.3 ∙ e, ap (λ (x : ℕ). Runs x full_slice) (sym r.2)))
        (looked_up Nothing (λ t. t.answer) n o.tables.threads)

dispatch_keeps : (o : Outcome) → ((dispatch o).tables.beats ≡ o.tables.beats) × ((dispatch o).tables.held ≡ o.tables.held)
dispatch_keeps o = by_dispatch (λ (U : Tables). (U.beats ≡ o.tables.beats) × (U.held ≡ o.tables.held)) o (λ _ _ _. (refl, refl))
    (λ _ _. (refl, refl)) (λ n q _ _. unfold change in (refl, refl))

-- a request that has a result at once
record Handing (T : Tables) (e : Event) (w : ℕ) : Type 0 where
  name : ℕ
  slice : ℕ
  call : Call
  asks : e ≡ ByRunner call
  runs : T.runner ≡ Runs name slice
  goes_on : (act T e).tables.runner ≡ Runs name slice
  result : ResultOf T (act T e).tables.held name call w

act_hands : (L : Limits) (T : Tables) → Ruled L T → (e : Event) (w : ℕ) → refusal L T e ≡ 0 → (act T e).answer ≡ Result w → Handing T e w
act_hands L T R Malformed w r i = unfold act in absurd (none_is_no_result i)
act_hands L T R (ByRunner c) w r i =
    let C = called L T c r in
    let s : act T (ByRunner c) ≡ serve C.name T c = unfold act in ap (λ (x : ℕ). serve x T c) C.caller in
    let k = serve_hands C.name T c w (λ d. omega (arith, R.fits.waiters d)) (ap (λ (o : Outcome). o.answer) (sym s) ∙ i) in
    record {
      name = C.name;
      slice = C.slice;
      call = c;
      asks = refl;
      runs = C.runner;
      goes_on = ap (λ (o : Outcome). o.tables.runner) s ∙ k.0 ∙ C.runner;
      result = subst (λ (hs : List Held). ResultOf T hs C.name c w) (ap (λ (o : Outcome). o.tables.held) (sym s)) k.1;
    }
act_hands L T R Tick w r i = unfold act in absurd (none_is_no_result i)
act_hands L T R (Interrupt d x) w r i = unfold act in absurd (none_is_no_result i)

-- ---- the step

step_is : (L : Limits) (T : Tables) (bytes : List ℕ) (r : ℕ) → refusal L T (decode bytes) ≡ r → step L T bytes ≡ settle r T (decode bytes)
unfolding step
step_is L T bytes r e = ap (λ (x : ℕ). settle x T (decode bytes)) e

-- a step that hands over a result hands it to a runner, as the result of its request, or because it waited for it
record HandsOver (P : ℕ → ℕ → Type 0) (L : Limits) (T : Tables) (bytes : List ℕ) (w : ℕ) : Type 0 where
  name : ℕ
  slice : ℕ
  runner : (step L T bytes).tables.runner ≡ Runs name slice
  how : Answers L T bytes name w ⊎ P name w

module _
    (P : ℕ → ℕ → Type 0)
    (L : Limits)
    (T : Tables)
    (R : Ruled L T)
    (bytes : List ℕ)
    (gives : (step L T bytes).decision.refusal ≡ 0 → (t : Thread) → Memᴰ t T.threads → (w : ℕ) →
    Wakes T (step L T bytes).tables.beats (decode bytes) t.state w → P t.name w)
    (H : Waiting P T.threads) where
  abbrev ev : Event
  ev = decode bytes

  module _ (r : refusal L T (decode bytes) ≡ 0) where
    taken : step L T bytes ≡ decided 0 (dispatch (act T ev))
    unfolding settle
    taken = step_is L T bytes 0 r

    accepted : (step L T bytes).decision.refusal ≡ 0
    accepted = ap (λ (s : Stepped). s.decision.refusal) taken

    waiting_acted : Waiting P (act T ev).tables.threads
    waiting_acted =
        waiting_act P T ev (λ t m w W. gives accepted t m w
        (subst (λ (b : ℕ). Wakes T b (decode bytes) t.state w)
        (sym (ap (λ (s : Stepped). s.tables.beats) taken ∙ (dispatch_keeps (act T ev)).0)) W)) H

    hands_accepted : (w : ℕ) → (step L T bytes).decision.answer ≡ Result w → HandsOver P L T bytes w
    hands_accepted w i =
        ⊎_elim at_once_case waited_case (dispatch_hands (act T ev) w (ap (λ (s : Stepped). s.decision.answer) (sym taken) ∙ i))
      where
        at_once_case : ((act T ev).answer ≡ Result w) × ((dispatch (act T ev)).tables ≡ (act T ev).tables) → HandsOver P L T bytes w
        at_once_case x =
            let k = act_hands L T R ev w r x.0 in
            let e : (step L T bytes).tables ≡ (act T ev).tables = ap (λ (s : Stepped). s.tables) taken ∙ x.1 in
            record {
              name = k.name;
              slice = k.slice;
              runner = ap (λ (U : Tables). U.runner) e ∙ k.goes_on;
              how = inl (record {
                accepted = accepted;
                slice = k.slice;
                runs = k.runs;
                call = k.call;
                asks = k.asks;
                result = subst (λ (U : Tables). ResultOf T U.held k.name k.call w) (sym e) k.result;
              });
            }

        waited_case : (t : Thread) × Memᴰ t (act T ev).tables.threads × (t.answer ≡ Result w)
            × ((dispatch (act T ev)).tables.runner ≡ Runs t.name full_slice) → HandsOver P L T bytes w
        waited_case x = record {
          name = x.0.name;
          slice = full_slice;
          runner = ap (λ (s : Stepped). s.tables.runner) taken ∙ x.3;
          how = inr (waiting_acted.result x.0 x.1 w x.2);
        }

  waiting_step : Waiting P (step L T bytes).tables.threads
  waiting_step = go (refusal L T (decode bytes)) refl
    where
      go : (r : ℕ) → refusal L T (decode bytes) ≡ r → Waiting P (step L T bytes).tables.threads
      go zero e = subst (λ (s : Stepped). Waiting P s.tables.threads) (sym (taken e)) (waiting_dispatch P (act T ev) (waiting_acted e))
      go (suc r) e = subst (λ (s : Stepped). Waiting P s.tables.threads) (sym (step_is L T bytes (suc r) e)) (unfold settle in H)

  step_hands : (w : ℕ) → (step L T bytes).decision.answer ≡ Result w → HandsOver P L T bytes w
  unfolding settle
  step_hands w i = go (refusal L T (decode bytes)) refl
    where
      go : (r : ℕ) → refusal L T (decode bytes) ≡ r → HandsOver P L T bytes w
      go zero e = hands_accepted e w i
      go (suc r) e = absurd (none_is_no_result (ap (λ (s : Stepped). s.decision.answer) (sym (step_is L T bytes (suc r) e)) ∙ i))

-- ---- runs from a start

module _ (L : Limits) (some_room : 1 ≤ L.threads) (few : L.threads < names) where
  ruled : (es : Input) → Ruled L (run L start es)
  ruled es = run_ruled start es few (start_ruled L some_room)

  abbrev After : Input → List ℕ → ℕ → ℕ → Type 0
  After es e n w = live n (run L start (es ++ (e ∷ []))) ≡ true → Woken L (es ++ (e ∷ [])) n w

  module _ (es : Input) (e : List ℕ) (H : Waiting (Woken L es) (run L start es).threads) where
    before : Waiting (After es e) (run L start es).threads
    before = record {
      result = λ t m w i l. waits es e t (H.result t m w i) m
          (result_ready t.state t.answer w ((ruled es).fits.threads t m).answer i) i l;
    }

    wakes : (step L (run L start es) e).decision.refusal ≡ 0 → (t : Thread) → Memᴰ t (run L start es).threads → (w : ℕ) →
        Wakes (run L start es) (step L (run L start es) e).tables.beats (decode e) t.state w → After es e t.name w
    wakes r t m w W l = woke es e t r m
        (subst (λ (U : Tables). Wakes (run L start es) U.beats (decode e) t.state w) (sym (run_last L start es e)) W) l

    event_waiting : Waiting (Woken L (es ++ (e ∷ []))) (run L start (es ++ (e ∷ []))).threads
    event_waiting =
        let X : Waiting (After es e) (run L start (es ++ (e ∷ []))).threads = subst (λ (U : Tables). Waiting (After es e) U.threads)
        (sym (run_last L start es e)) (waiting_step (After es e) L (run L start es) (ruled es) e wakes before) in
        record { result = λ t m w i. X.result t m w i (member_live (run L start (es ++ (e ∷ []))).threads t m) }

    event_hands : (w : ℕ) → (step L (run L start es) e).decision.answer ≡ Result w →
        Asked L (es ++ (e ∷ [])) (step L (run L start es) e).decision.runner w
    event_hands w i =
        let k = step_hands (After es e) L (run L start es) (ruled es) e wakes before w i in
        let n : (step L (run L start es) e).decision.runner ≡ k.name = decision_runner L (run L start es) e ∙ unfold me in
        ap me k.runner in
        let l : live k.name (run L start (es ++ (e ∷ []))) ≡ true = runner_live (ruled (es ++ (e ∷ []))).inv k.name k.slice
        (ap (λ (U : Tables). U.runner) (run_last L start es e) ∙ k.runner) in
        subst (λ (x : ℕ). Asked L (es ++ (e ∷ [])) x w) (sym n) (⊎_elim (λ a. at_once es e a l) (λ p. woken (p l)) k.how)

  waiting_from : (es fs : Input) → Waiting (Woken L es) (run L start es).threads →
      Waiting (Woken L (es ++ fs)) (run L start (es ++ fs)).threads
  waiting_from es [] H = rw append-nil H
  waiting_from es (f ∷ fs) H =
      subst (λ (x : Input). Waiting (Woken L x) (run L start x).threads) (append_assoc es (f ∷ []) fs)
      (waiting_from (es ++ (f ∷ [])) fs (event_waiting es f H))

  always : (es : Input) → Waiting (Woken L es) (run L start es).threads
  unfolding run
  always es = waiting_from [] es (record { result = λ t m w i. absurd (none_is_no_result (sym (one t m) ∙ i)) })
    where
      one : (t : Thread) → Memᴰ t start.threads → t.answer ≡ Nothing
      one t (Memᴰ.head i) = ap (λ (x : Thread). x.answer) i
      one t (Memᴰ.tail i) = elim i [ ]

-- ---- the laws

-- A result that waits for a thread is one that it was woken with, in its present life, and has not been handed since.
pub result_was_woken : (L : Limits) → 1 ≤ L.threads → L.threads < names → (es : Input) (t : Thread) (w : ℕ) →
    Memᴰ t (run L start es).threads → t.answer ≡ Result w → Woken L es t.name w
result_was_woken L p q es t w m i = (always L p q es).result t m w i

-- A result that an event hands to thread n is that of a request of thread n, in its present life.
pub result_was_asked : (L : Limits) → 1 ≤ L.threads → L.threads < names → (es : Input) (e : List ℕ) (n w : ℕ) →
    (step L (run L start es) e).decision.runner ≡ n → (step L (run L start es) e).decision.answer ≡ Result w → Asked L (es ++ (e ∷ [])) n w
result_was_asked L p q es e n w r i = subst (λ (x : ℕ). Asked L (es ++ (e ∷ [])) x w) r (event_hands L p q es e (always L p q es) w i)

-- Who has asked for a result was live before the last event: a newcomer has asked for nothing. So a creation that gives the newcomer a
-- result, as a word that was held for an ended thread's device, breaks `result_was_woken` and `result_was_asked`.
pub newcomer_has_asked_nothing : (L : Limits) → 1 ≤ L.threads → L.threads < names → (es : Input) (e : List ℕ) (n w : ℕ) →
    live n (run L start es) ≡ false → Asked L (es ++ (e ∷ [])) n w → ⊥
newcomer_has_asked_nothing L p q es e n w d a = asked (es ++ (e ∷ [])) n w refl d a
  where
    same : (m : ℕ) (ds : Input) (c : List ℕ) → ds ++ (c ∷ []) ≡ es ++ (e ∷ []) → live m (run L start es) ≡ false →
        live m (run L start ds) ≡ false
    same m ds c i o = ap (λ (x : Input). live m (run L start x)) (last_same ds es i).0 ∙ o

    was : (xs : Input) (m x : ℕ) → xs ≡ es ++ (e ∷ []) → live m (run L start es) ≡ false → Woken L xs m x → ⊥
    was xs m x i o (woke ds c t r j W l) = clash (member_live (run L start ds).threads t j) (same m ds c i o)
    was xs m x i o (waits ds c t k j s h l) = clash (member_live (run L start ds).threads t j) (same m ds c i o)

    asked : (xs : Input) (m x : ℕ) → xs ≡ es ++ (e ∷ []) → live m (run L start es) ≡ false → Asked L xs m x → ⊥
    asked xs m x i o (at_once ds c k l) =
        clash (runner_live (run_ruled start ds q (start_ruled L p)).inv m k.slice k.runs) (same m ds c i o)
    asked xs m x i o (woken k) = was xs m x i o k

-- since a time at which no thread n lived
module _ (L : Limits) (es : Input) where
  woken_since : (xs gs : Input) (n w : ℕ) → live n (run L start es) ≡ false → xs ≡ es ++ gs → Woken L xs n w →
      AskedIn L (run L start es) gs n w
  woken_since xs gs n w dead i (woke ds c t r m W l) =
      let k = last_since L es n dead ds c gs i l in
      record {
        earlier = k.0;
        event = c;
        later = [];
        among = k.2;
        how = inr (subst (λ (T : Tables). WokenBy L T c n w) (ap (run L start) k.1 ∙ run_append L start es k.0)
            (record {
              thread = t;
              there = m;
              name = refl;
              accepted = r;
              wakes = subst (λ (U : Tables). Wakes (run L start ds) U.beats (decode c) t.state w) (run_last L start ds c) W;
            }));
      }
  woken_since xs gs n w dead i (waits ds c t o m s a l) =
      let k = last_since L es n dead ds c gs i l in
      let later = woken_since ds k.0 n w dead k.1 o in
      record {
        earlier = later.earlier;
        event = later.event;
        later = later.later ++ (c ∷ []);
        among = k.2 ∙ ap (λ (x : Input). x ++ (c ∷ [])) later.among
            ∙ append_assoc later.earlier (later.event ∷ later.later) (c ∷ []);
        how = later.how;
      }

  pub asked_since : (xs gs : Input) (n w : ℕ) → live n (run L start es) ≡ false → xs ≡ es ++ gs → Asked L xs n w →
      AskedIn L (run L start es) gs n w
  asked_since xs gs n w dead i (at_once ds c a l) =
      let k = last_since L es n dead ds c gs i l in
      record {
        earlier = k.0;
        event = c;
        later = [];
        among = k.2;
        how = inl (subst (λ (T : Tables). Answers L T c n w) (ap (run L start) k.1 ∙ run_append L start es k.0) a);
      }
  asked_since xs gs n w dead i (woken k) = woken_since xs gs n w dead i k

-- If at some time no thread n lived, then every result that a later thread n is handed came after that time: by its own request, or by
-- the event that woke it.
pub no_late_result : (L : Limits) → 1 ≤ L.threads → L.threads < names → (es fs : Input) (e : List ℕ) (n w : ℕ) →
    live n (run L start es) ≡ false →
    (step L (run L start (es ++ fs)) e).decision.runner ≡ n → (step L (run L start (es ++ fs)) e).decision.answer ≡ Result w →
    AskedIn L (run L start es) (fs ++ (e ∷ [])) n w
no_late_result L p q es fs e n w d r i = asked_since L es ((es ++ fs) ++ (e ∷ [])) (fs ++ (e ∷ [])) n w d (append_assoc es fs (e ∷ []))
    (result_was_asked L p q (es ++ fs) e n w r i)

-- Whatever answer an event hands over, it has its cause.
pub whatever_is_handed : (L : Limits) → 1 ≤ L.threads → L.threads < names → (es : Input) (e : List ℕ) →
    Cause L (es ++ (e ∷ [])) (step L (run L start es) e).decision.runner (step L (run L start es) e).decision.answer
whatever_is_handed L p q es e = go (step L (run L start es) e).decision.answer refl
  where
    n : ℕ
    n = (step L (run L start es) e).decision.runner

    go : (a : Answer) → (step L (run L start es) e).decision.answer ≡ a → Cause L (es ++ (e ∷ [])) n a
    go Nothing i = no_answer
    go (FromMessage s w) i = a_message (handed_was_owed L p q es e n (FromMessage s w) refl i (unfold from_a_thread in refl))
    go (FromNotice s c) i = a_notice (handed_was_owed L p q es e n (FromNotice s c) refl i (unfold from_a_thread in refl))
    go (SenderGone m) i = sender_gone (gone_was_waited_for L p q es e n m refl i)
    go (Result w) i = a_result (result_was_asked L p q es e n w refl i)
