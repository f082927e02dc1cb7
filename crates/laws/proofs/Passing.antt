-- What a step passes on: every message and every answer after it was there before, or is one that this event gives.
use Rattle.std.proofs.Common.{if◌then◌else◌, ◌==◌}
use Prim.Native.Nat.{ℕ, zero, suc, ◌+◌, ◌≤◌, ◌<◌}
use mathlib.Core.Path.{◌≡◌, refl, sym, ap, ◌∙◌, subst}
use mathlib.Core.Logic.{⊎_elim}
use mathlib.Core.Bool.{Bool, true, false, not}
use mathlib.Core.List.{List, [], ◌∷◌, ◌++◌, map, append-nil, append_assoc, Memᴰ}
use lib.Dec.{ltb}
use borrow.Author.Tests.{eqb-true}
use Rattle.rules.specs.Lists.{any, has, keep, Pulled, missing, pulled, pull}
use Rattle.rules.specs.Numbers.{names, beat_ticks}
use Rattle.laws.specs.Words.{Limits}
use Rattle.rules.specs.Words.{by_manager}
use Rattle.rules.specs.Tables.{Tables, with_time, with_clock, with_messages, in_state, with_ticks, with_managers, named, live, of_thread}
use Rattle.rules.specs.Tables.{change, manager, set_entry, new_thread, me, start}
use Rattle.rules.specs.States.{on_clock, waits_for}
use Rattle.rules.specs.Waking.{Outcome, ◌handing◌, wake_those, handed_as, handed, accepts, queue, deliver, stop, notice_of}
use Rattle.rules.specs.Ending.{ended_set, remove, misses, release, end}
use Rattle.rules.specs.Send.{message, waits_for_decision, decides, decide, send}
use Rattle.rules.specs.Receive.{wanted_by, received, receive}
use Rattle.rules.specs.Trap.{notice, trap}
use Rattle.rules.specs.Tick.{one_more, charge, beat, rotate, tick}
use Rattle.rules.specs.Interrupt.{interrupt}
use Rattle.rules.specs.Requests.{next_name, create, terminate, set_over, wait_for_clock, take_held}
use Rattle.rules.specs.Dispatch.{run_next, dispatch}
use Rattle.rules.specs.Events.{decode}
use Rattle.rules.specs.Refusals.{call_rules, refusal}
use Rattle.rules.specs.Step.{serve, act, settle, step}
use Rattle.rules.specs.Runs.{Input, run}
use Rattle.laws.specs.Words.{Wanted, Only, TrapKind, State, Running, Ready, Receiving, Clock, Device, Trapped, Answer, Nothing}
use Rattle.laws.specs.Words.{FromMessage, FromNotice, SenderGone, Result, Manager, Unset, Set, Gone, Parent, Thread, Message, Held}
use Rattle.laws.specs.Words.{Runner, NoRunner, Runs, Target, Oneself, Named, Call, Send, Receive, CreateBrother, CreateSon, Terminate}
use Rattle.laws.specs.Words.{SetManager, GetCpuTime, WaitForClock, WaitForIo, Trap, Event, Malformed, ByRunner, Tick, Interrupt}
use Rattle.laws.specs.Types.{Ruled}
use Rattle.laws.specs.Ending.{Survives}
use Rattle.laws.proofs.Tests.{by_if, by_runs, and_left, not_false}
use Rattle.laws.proofs.Members.{mem_keep, mem_insert, mem_map}
use Rattle.laws.proofs.Ordered.{pull_took}
use Rattle.laws.proofs.Threads.{member_live, looked_up, turned, turned_name}
use Rattle.laws.proofs.Steps.{passed, called, by_dispatch, run_last}
use Rattle.laws.proofs.PlacesKept.{runner_live}
use Rattle.laws.proofs.Kept.{run_ruled, start_ruled}
use Rattle.laws.proofs.Ending.{missed, receiver_misses, message_left, origins}

-- the name that an accepted send gives is live
pub accepted_send : (L : Limits) (T : Tables) (to w : ℕ) → refusal L T (ByRunner (Send to w)) ≡ 0 → live to T ≡ true
unfolding call_rules
accepted_send L T to w h = not_false _ (passed _ 3 _ (called L T (Send to w) h).passes).0

-- ---- what is said of tables

-- P says which answers may be due to which name. It holds of the messages, for their receivers, and of the threads' answers.
pub record Holds (P : ℕ → Answer → Type 0) (ts : List Thread) (ms : List Message) : Type 0 where
  pub messages : (m : Message) → Memᴰ m ms → P m.to (handed m)
  pub answers : (t : Thread) → Memᴰ t ts → P t.name t.answer

abbrev pub Within : (ℕ → Answer → Type 0) → Tables → Type 0
Within P T = Holds P T.threads T.messages

-- an answer is handed to the runner; where nobody runs, none is
unfoldable pub Hands : (ℕ → Answer → Type 0) → Runner → Answer → Type 0
Hands P NoRunner a = a ≡ Nothing
Hands P (Runs n s) a = P n a

-- after a part of a step
pub record Passed (P : ℕ → Answer → Type 0) (o : Outcome) : Type 0 where
  pub within : Within P o.tables
  pub hands : Hands P o.tables.runner o.answer

-- all that event e in tables T can give: nothing, a service result, the message or notice that it sends, word of an end
pub record Gives (P : ℕ → Answer → Type 0) (T : Tables) (e : Event) : Type 0 where
  pub nothing : (n : ℕ) → P n Nothing
  pub result : (n w : ℕ) → P n (Result w)
  pub by_send : (s q n w : ℕ) → T.runner ≡ Runs s q → e ≡ ByRunner (Send n w) → decides s n T ≡ false → P n (FromMessage s w)
  pub by_trap : (s q n c : ℕ) (k : TrapKind) → T.runner ≡ Runs s q → e ≡ ByRunner (Trap k c) →
      of_thread Unset (λ t. manager k t.managers) s T.threads ≡ Set n → P n (FromNotice s c)
  pub by_end : (x m : ℕ) (t : Thread) → (act T e).tables ≡ end x T → Memᴰ t T.threads → t.state ≡ Receiving (Only m) →
      has m (ended_set T.threads x) ≡ true → P t.name (SenderGone m)

module _ (P : ℕ → Answer → Type 0) where
  -- ---- the moves that events share

  holds_map : (g : Thread → Thread) {ts : List Thread} {ms : List Message} → ((t : Thread) → Memᴰ t ts → P (g t).name (g t).answer) →
      Holds P ts ms → Holds P (map g ts) ms
  holds_map g {ts} h H = record {
    messages = H.messages;
    answers = λ u m. let r = mem_map g ts m in subst (λ (x : Thread). P x.name x.answer) (sym r.2) (h r.0 r.1);
  }

  holds_some : (p : Thread → Bool) (f : Thread → Thread) {ts : List Thread} {ms : List Message} →
      ((t : Thread) → Memᴰ t ts → p t ≡ true → P (f t).name (f t).answer) → Holds P ts ms →
      Holds P (map (λ t. if p t then f t else t) ts) ms
  holds_some p f h H =
      holds_map (λ t. if p t then f t else t) (λ t m. by_if (λ (u : Thread). P u.name u.answer) (p t) (h t m) (λ e. H.answers t m)) H

  within_wake : (p : Thread → Bool) (a : Thread → Answer) (ns : List ℕ) (T : Tables) →
      ((t : Thread) → Memᴰ t T.threads → p t ≡ true → P t.name (a t)) → Within P T → Within P (wake_those p a ns T)
  unfolding wake_those
  within_wake p a ns T h H = holds_some p (λ t. in_state Ready (a t) t) h H

  within_change : (n : ℕ) (f : Thread → Thread) (T : Tables) → ((t : Thread) → Memᴰ t T.threads → P (f t).name (f t).answer) →
      Within P T → Within P (change n f T)
  unfolding change
  within_change n f T h H = holds_some (named n) f (λ t m e. h t m) H

  -- fewer messages
  within_messages : (ms : List Message) (T : Tables) → ((m : Message) → Memᴰ m ms → Memᴰ m T.messages) → Within P T →
      Within P (with_messages ms T)
  within_messages ms T h H = record { messages = λ m i. H.messages m (h m i); answers = H.answers }

  within_deliver : (m : Message) (T : Tables) → P m.to (handed m) → Within P T → Within P (deliver m T)
  unfolding deliver queue
  within_deliver m T h H =
      by_if (λ (U : Tables). Within P U) (any (accepts m) T.threads)
      (λ e. within_wake (accepts m) (λ t. handed m) _ T
      (λ t i a. subst (λ (n : ℕ). P n (handed m)) (eqb-true m.to t.name (and_left _ _ a)) h) H)
      (λ e. record {
        messages = λ x i. ⊎_elim (λ j. subst (λ (y : Message). P y.to (handed y)) (sym j) h) (H.messages x)
            (mem_insert _ m T.messages i);
        answers = H.answers;
      })

  within_stop : ((n : ℕ) → P n Nothing) → (n : ℕ) (s : State) (T : Tables) → Within P T → Within P (stop n s T)
  unfolding stop
  within_stop nothing n s T H = within_change n (in_state s Nothing) T (λ t m. nothing t.name) H

  within_end : (x : ℕ) (T : Tables) →
      ((m : ℕ) (t : Thread) → Memᴰ t T.threads → t.state ≡ Receiving (Only m) → has m (ended_set T.threads x) ≡ true →
      P t.name (SenderGone m)) →
      Within P T → Within P (end x T)
  within_end x T gone H = record {
    messages = λ m i. H.messages m (message_left set T.messages m (unfold end release remove wake_those in i)).0;
    answers = λ u i. let r = origins x T u i in after u r.0 r.1 r.3 (misses set r.0.state) refl;
  }
    where
      set : List ℕ
      set = ended_set T.threads x

      after : (u t : Thread) → Memᴰ t T.threads → Survives (ended_set T.threads x) t u → (b : Bool) →
          misses (ended_set T.threads x) t.state ≡ b → P u.name u.answer
      after u t m S true e =
          let w = missed (ended_set T.threads x) t.state e in
          rw (S.name, (S.told w.0 w.1 w.2).1) (gone w.0 t m w.1 w.2)
      after u t m S false e = rw (S.name, (S.same (λ n i. sym (receiver_misses _ n i) ∙ e)).1) (H.answers t m)

  -- ---- what is handed over

  hands_nothing : ((n : ℕ) → P n Nothing) → (r : Runner) → Hands P r Nothing
  unfolding Hands
  hands_nothing nothing NoRunner = refl
  hands_nothing nothing (Runs n s) = nothing n

  hands_runner : {r : Runner} {a : Answer} (n s : ℕ) → r ≡ Runs n s → P n a → Hands P r a
  unfolding Hands
  hands_runner n s e h = rw e h

  -- tables and no answer
  only : ((n : ℕ) → P n Nothing) → (T : Tables) → Within P T → Passed P (T handing Nothing)
  only nothing T H = record { within = H; hands = hands_nothing nothing T.runner }

  -- ---- events that nobody calls

  within_charge : (T : Tables) → Within P T → Within P (charge T)
  unfolding charge
  within_charge T H =
      by_runs (λ (U : Tables). Within P U) T.runner (λ _. H)
      (λ n s _. within_change n (λ t. with_ticks (one_more t.ticks) t) T (λ t m. H.answers t m) H)

  module _ (nothing : (n : ℕ) → P n Nothing) (result : (n w : ℕ) → P n (Result w)) where
    within_beat : (T : Tables) → Within P T → Within P (beat T)
    unfolding beat
    within_beat T H =
        by_if (λ (U : Tables). Within P U) (T.since + 1 == beat_ticks)
        (λ e. within_wake (λ t. on_clock t.state) (λ t. Result (one_more T.beats)) T.clock
        (with_clock [] (with_time 0 (one_more T.beats) T)) (λ t m i. result t.name _) H)
        (λ e. H)

    within_rotate : (T : Tables) → Within P T → Within P (rotate T)
    unfolding rotate
    within_rotate T H =
        by_runs (λ (U : Tables). Within P U) T.runner (λ _. H)
        (λ n s _. by_if (λ (U : Tables). Within P U) (s == 0)
        (λ e. within_wake (named n) (λ t. Nothing) (n ∷ []) T (λ t m i. nothing t.name) H) (λ e. H))

    within_tick : (T : Tables) → Within P T → Within P (tick T)
    unfolding tick
    within_tick T H = within_rotate (beat (charge T)) (within_beat (charge T) (within_charge T H))

    within_interrupt : (d w : ℕ) (T : Tables) → Within P T → Within P (interrupt d w T)
    unfolding interrupt
    within_interrupt d w T H =
        by_if (λ (U : Tables). Within P U) (any (waits_for d) T.threads)
        (λ e. within_wake (waits_for d) (λ t. Result w) _ T (λ t m i. result t.name w) H)
        (λ e. H)

    -- ---- calls

    within_create : (p : Parent) (T : Tables) → Within P T → Within P (create p T).tables
    unfolding create
    within_create p T H = record {
      messages = H.messages;
      answers = λ u m. ⊎_elim (λ e. subst (λ (x : Thread). P x.name x.answer) (sym e) (nothing (next_name T))) (H.answers u)
          (mem_insert (λ t. ltb t.name (next_name T)) (new_thread (next_name T) p Ready) T.threads m);
    }

    create_passes : (s q : ℕ) (p : Parent) (T : Tables) → T.runner ≡ Runs s q → Within P T → Passed P (create p T)
    create_passes s q p T e H =
        record { within = within_create p T H; hands = unfold create in hands_runner s q e (result s (next_name T)) }

    receive_passes : (s q : ℕ) (w : Wanted) (T : Tables) → T.runner ≡ Runs s q → Within P T → Passed P (receive s w T)
    unfolding receive received
    receive_passes s q w T e H = go (pull (wanted_by s w) T.messages) refl
      where
        go : (r : Pulled Message) → pull (wanted_by s w) T.messages ≡ r → Passed P (received s w T r)
        go missing i = only nothing (stop s (Receiving w) T) (within_stop nothing s (Receiving w) T H)
        go (pulled m ms) i =
            let k = pull_took (wanted_by s w) T.messages i in
            record {
              within = within_messages ms T k.less.member H;
              hands = hands_runner s q e (subst (λ (n : ℕ). P n (handed m)) (eqb-true m.to s (and_left _ _ k.passes))
                  (H.messages m k.from));
            }

    take_passes : (s q d : ℕ) (T : Tables) (r : Pulled Held) → T.runner ≡ Runs s q → Within P T → Passed P (take_held s d T r)
    unfolding take_held
    take_passes s q d T missing e H = only nothing (stop s (Device d) T) (within_stop nothing s (Device d) T H)
    take_passes s q d T (pulled h hs) e H =
        record { within = record { messages = H.messages; answers = H.answers }; hands = hands_runner s q e (result s h.word) }

  serves : (s q : ℕ) (T : Tables) (c : Call) → T.runner ≡ Runs s q → act T (ByRunner c) ≡ serve s T c
  unfolding act me
  serves s q T c e = ap (λ (r : Runner). serve (me r) T c) e

  module _ (s q : ℕ) (T : Tables) (runs : T.runner ≡ Runs s q) (H : Within P T) where
    -- a call that ends a thread
    within_ended : (c : Call) (x : ℕ) → Gives P T (ByRunner c) → (serve s T c).tables ≡ end x T → Within P (end x T)
    within_ended c x G e = within_end x T (λ m t i j h. G.by_end x m t (ap (λ (o : Outcome). o.tables) (serves s q T c runs) ∙ e) i j h) H

    within_decide : (to w : ℕ) → Gives P T (ByRunner (Send to w)) → decides s to T ≡ true → Within P (decide s to w T)
    unfolding decide
    within_decide to zero G d =
        within_wake (waits_for_decision s to) (λ t. Nothing) _ (with_messages (keep (λ m. not (notice_of to m)) T.messages) T)
        (λ t m i. G.nothing t.name)
        (within_messages _ T (λ m i. (mem_keep (λ x. not (notice_of to x)) T.messages i).0) H)
    within_decide to (suc w) G d = within_ended (Send to (suc w)) to G (unfold serve send decide in
        ap (λ (b : Bool). if b then end to T else deliver (message to s (suc w)) T) d)

    within_send : (to w : ℕ) → Gives P T (ByRunner (Send to w)) → Within P (send s to w T)
    unfolding send
    within_send to w G =
        by_if (λ (U : Tables). Within P U) (decides s to T) (within_decide to w G)
        (λ e. within_deliver (message to s w) T (unfold handed_as in G.by_send s q to w runs refl e) H)

    within_trap : (k : TrapKind) (c : ℕ) → Gives P T (ByRunner (Trap k c)) → Within P (trap s k c T)
    unfolding trap serve
    within_trap k c G = go (of_thread Unset (λ t. manager k t.managers) s T.threads) refl
      where
        go : (m : Manager) → of_thread Unset (λ t. manager k t.managers) s T.threads ≡ m →
            Within P (by_manager (end s T) (λ n. deliver (notice n s c) (stop s (Trapped k) T)) m)
        go Unset e = within_ended (Trap k c) s G (ap (by_manager (end s T) (λ n. deliver (notice n s c) (stop s (Trapped k) T))) e)
        go (Set n) e = within_deliver (notice n s c) (stop s (Trapped k) T) (unfold handed_as in
            G.by_trap s q n c k runs refl e) (within_stop G.nothing s (Trapped k) T H)
        go Gone e = within_ended (Trap k c) s G (ap (by_manager (end s T) (λ n. deliver (notice n s c) (stop s (Trapped k) T))) e)

    set_passes : (k : TrapKind) (n : ℕ) → Gives P T (ByRunner (SetManager k n)) → Passed P (serve s T (SetManager k n))
    unfolding serve set_over
    set_passes k n G = go (of_thread Unset (λ t. manager k t.managers) s T.threads) refl
      where
        go : (m : Manager) → of_thread Unset (λ t. manager k t.managers) s T.threads ≡ m → Passed P (set_over m s k n T)
        go Unset e = record {
          within = within_change s (λ t. with_managers (set_entry k (Set n) t.managers) t) T (λ t m. H.answers t m) H;
          hands = unfold change in hands_runner s q runs (G.result s 0);
        }
        go (Set m) e = only G.nothing (end s T) (within_ended (SetManager k n) s G (ap (λ (m : Manager). (set_over m s k n T).tables) e))
        go Gone e = only G.nothing (end s T) (within_ended (SetManager k n) s G (ap (λ (m : Manager). (set_over m s k n T).tables) e))

    terminate_passes : (x : Target) → Gives P T (ByRunner (Terminate x)) → Passed P (terminate s x T)
    unfolding terminate serve
    terminate_passes Oneself G = only G.nothing (end s T) (within_ended (Terminate Oneself) s G refl)
    terminate_passes (Named n) G = only G.nothing (end n T) (within_ended (Terminate (Named n)) n G refl)

    serve_passes : (c : Call) → Gives P T (ByRunner c) → Passed P (serve s T c)
    unfolding serve
    serve_passes (Send to w) G = only G.nothing (send s to w T) (within_send to w G)
    serve_passes (Receive w) G = receive_passes G.nothing G.result s q w T runs H
    serve_passes CreateBrother G = create_passes G.nothing G.result s q _ T runs H
    serve_passes CreateSon G = create_passes G.nothing G.result s q _ T runs H
    serve_passes (Terminate x) G = terminate_passes x G
    serve_passes (SetManager k n) G = set_passes k n G
    serve_passes GetCpuTime G = record { within = H; hands = hands_runner s q runs (G.result s _) }
    serve_passes WaitForClock G = unfold wait_for_clock in only G.nothing _ (within_stop G.nothing s Clock T H)
    serve_passes (WaitForIo d) G = take_passes G.nothing G.result s q d T _ runs H
    serve_passes (Trap k c) G = only G.nothing (trap s k c T) (within_trap k c G)

  -- ---- the event, and dispatch

  act_passes : (L : Limits) (T : Tables) (e : Event) → refusal L T e ≡ 0 → Gives P T e → Within P T → Passed P (act T e)
  unfolding act
  act_passes L T Malformed r G H = only G.nothing T H
  act_passes L T (ByRunner c) r G H =
      let C = called L T c r in
      subst (λ (o : Outcome). Passed P o) (sym (serves C.name C.slice T c C.runner))
      (serve_passes C.name C.slice T C.runner H c G)
  act_passes L T Tick r G H = only G.nothing (tick T) (within_tick G.nothing G.result T H)
  act_passes L T (Interrupt d w) r G H = only G.nothing (interrupt d w T) (within_interrupt G.nothing G.result d w T H)

  dispatch_passes : ((n : ℕ) → P n Nothing) → (o : Outcome) → Passed P o → Passed P (dispatch o)
  unfolding dispatch run_next Hands change
  dispatch_passes nothing o X = by_runs (Passed P) o.tables.runner (λ _. next o.tables.ready) (λ _ _ _. X)
    where
      next : (q : List ℕ) → Passed P (run_next q o)
      next [] = X
      next (n ∷ ns) = record {
        within = within_change n (in_state Running Nothing) o.tables (λ t m. nothing t.name) X.within;
        hands = ⊎_elim (λ e. subst (P n) (sym e) (nothing n))
            (λ r. subst (P n) (sym r.3) (subst (λ (x : ℕ). P x r.0.answer) r.2 (X.within.answers r.0 r.1)))
            (looked_up Nothing (λ t. t.answer) n o.tables.threads);
      }

  -- ---- the step

  -- the tables after a step, and the answer that it hands over
  pub step_passes : (L : Limits) (T : Tables) (bytes : List ℕ) → ((n : ℕ) → P n Nothing) →
      ((step L T bytes).decision.refusal ≡ 0 → Gives P T (decode bytes)) → Within P T →
      Passed P ((step L T bytes).tables handing (step L T bytes).decision.answer)
  unfolding step settle
  step_passes L T bytes nothing G H = go (refusal L T (decode bytes)) refl G
    where
      go : (r : ℕ) → refusal L T (decode bytes) ≡ r → ((settle r T (decode bytes)).decision.refusal ≡ 0 → Gives P T (decode bytes)) →
          Passed P ((settle r T (decode bytes)).tables handing (settle r T (decode bytes)).decision.answer)
      go zero e g = dispatch_passes nothing (act T (decode bytes)) (act_passes L T (decode bytes) e (g refl) H)
      go (suc r) e g = only nothing T H

-- dispatch brings no thread
pub dispatch_names : (o : Outcome) (u : Thread) → Memᴰ u (dispatch o).tables.threads →
    (t : Thread) × Memᴰ t o.tables.threads × (u.name ≡ t.name)
unfolding change
dispatch_names o u = by_dispatch (λ (U : Tables). Memᴰ u U.threads → (t : Thread) × Memᴰ t o.tables.threads
    × (u.name ≡ t.name)) o (λ _ _ _ m. (u, m, refl)) (λ _ _ m. (u, m, refl)) (λ n q _ _. next n)
  where
    next : (n : ℕ) → Memᴰ u (map (turned (named n) (in_state Running Nothing)) o.tables.threads) →
        (t : Thread) × Memᴰ t o.tables.threads × (u.name ≡ t.name)
    next n m =
        let r = mem_map (turned (named n) (in_state Running Nothing)) o.tables.threads m in
        (r.0, r.1, ap (λ (x : Thread). x.name) r.2 ∙ turned_name (named n) (in_state Running Nothing) (λ t. refl) r.0)

-- ---- runs from a start

-- the decision names the runner that the tables have
pub decision_runner : (L : Limits) (T : Tables) (bytes : List ℕ) → (step L T bytes).decision.runner ≡ me (step L T bytes).tables.runner
unfolding step settle
decision_runner L T bytes = go (refusal L T (decode bytes))
  where
    go : (r : ℕ) → (settle r T (decode bytes)).decision.runner ≡ me (settle r T (decode bytes)).tables.runner
    go zero = refl
    go (suc r) = refl

-- S says, of the events so far, which answers may be due to which name: here after one more event, as far as the name is live then
abbrev pub After : (Input → ℕ → Answer → Type 0) → Limits → Input → List ℕ → ℕ → Answer → Type 0
After S L es e n a = live n (run L start (es ++ (e ∷ []))) ≡ true → S (es ++ (e ∷ [])) n a

-- S is kept by an event for the live, and what an event gives is in S.
module _
    (S : Input → ℕ → Answer → Type 0)
    (L : Limits)
    (some_room : 1 ≤ L.threads)
    (few : L.threads < names)
    (nothing : (es : Input) (n : ℕ) → S es n Nothing)
    (keeps : (es : Input) (e : List ℕ) (n : ℕ) (a : Answer) → S es n a → After S L es e n a)
    (gives : (es : Input) (e : List ℕ) → (step L (run L start es) e).decision.refusal ≡ 0 →
    Gives (After S L es e) (run L start es) (decode e)) where
  ruled : (es : Input) → Ruled L (run L start es)
  ruled es = run_ruled start es few (start_ruled L some_room)

  event_passes : (es : Input) (e : List ℕ) → Within (S es) (run L start es) →
      Passed (After S L es e) ((step L (run L start es) e).tables handing (step L (run L start es) e).decision.answer)
  event_passes es e H =
      step_passes (After S L es e) L (run L start es) e (λ n l. nothing (es ++ (e ∷ [])) n) (gives es e)
      (record {
        messages = λ m i. keeps es e m.to (handed m) (H.messages m i);
        answers = λ t i. keeps es e t.name t.answer (H.answers t i);
      })

  -- receivers of messages and owners of answers are live
  event_within : (es : Input) (e : List ℕ) → Within (S es) (run L start es) → Within (S (es ++ (e ∷ []))) (run L start (es ++ (e ∷ [])))
  event_within es e H =
      let X : Within (After S L es e) (run L start (es ++ (e ∷ []))) =
      subst (λ (T : Tables). Within (After S L es e) T) (sym (run_last L start es e)) (event_passes es e H).within in
      record {
        messages = λ m i. X.messages m i ((ruled (es ++ (e ∷ []))).fits.messages m i).to_live;
        answers = λ t i. X.answers t i (member_live (run L start (es ++ (e ∷ []))).threads t i);
      }

  within_from : (es fs : Input) → Within (S es) (run L start es) → Within (S (es ++ fs)) (run L start (es ++ fs))
  within_from es [] H = rw append-nil H
  within_from es (f ∷ fs) H =
      subst (λ (x : Input). Within (S x) (run L start x)) (append_assoc es (f ∷ []) fs)
      (within_from (es ++ (f ∷ [])) fs (event_within es f H))

  -- after any events S holds of all messages, for their receivers, and of all threads' answers
  pub always : (es : Input) → Within (S es) (run L start es)
  unfolding run
  always es = within_from [] es (record { messages = λ m i. elim i [ ]; answers = one })
    where
      one : (t : Thread) → Memᴰ t start.threads → S [] t.name t.answer
      one t (Memᴰ.head i) = subst (λ (u : Thread). S [] u.name u.answer) (sym i) (nothing [] 0)
      one t (Memᴰ.tail i) = elim i [ ]

  -- and of what an event hands over
  pub handed_over : (es : Input) (e : List ℕ) →
      S (es ++ (e ∷ [])) (step L (run L start es) e).decision.runner (step L (run L start es) e).decision.answer
  unfolding Hands me
  handed_over es e = go (step L (run L start es) e).tables.runner refl (event_passes es e (always es)).hands
    where
      go : (x : Runner) → (step L (run L start es) e).tables.runner ≡ x →
          Hands (After S L es e) x (step L (run L start es) e).decision.answer →
          S (es ++ (e ∷ [])) (step L (run L start es) e).decision.runner (step L (run L start es) e).decision.answer
      go NoRunner k h = subst (S (es ++ (e ∷ [])) _) (sym h) (nothing (es ++ (e ∷ [])) _)
      go (Runs m s) k h =
          subst (λ (x : ℕ). S (es ++ (e ∷ [])) x (step L (run L start es) e).decision.answer)
          (sym (decision_runner L (run L start es) e ∙ ap me k))
          (h (runner_live (ruled (es ++ (e ∷ []))).inv m s (ap (λ (T : Tables). T.runner) (run_last L start es e) ∙ k)))
