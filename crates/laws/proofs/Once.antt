-- What is queued leaves its inbox once: every message and every notice that joined one has been handed over, has been discarded, or waits
-- there still. This holds over any run, with endings and decisions in it.
-- Equal messages cannot be told apart, so they are counted: for every test on messages.
-- What joins, is handed over and is discarded is read off the event, the decision and the tables before it, not off what the tables lose.
use Rattle.std.proofs.Common.{if◌then◌else◌, ◌==◌}
use Prim.Native.Nat.{ℕ, zero, suc, ◌+◌, ◌≤◌, ◌<◌}
use mathlib.Core.Path.{◌≡◌, refl, sym, ap, ◌∙◌, subst}
use mathlib.Core.Logic.{◌≢◌, ⊎_elim}
use mathlib.Core.Bool.{Bool, true, false, ◌&&◌, ◌||◌, not}
use mathlib.Core.List.{List, [], ◌∷◌, map}
use native.Mathlib.Omega.{arith}
use lib.Dec.{leb}
use borrow.Author.Tests.{eqb-true, eq-eqb, ne_eqb}
use Rattle.rules.specs.Lists.{one_if, any, has, keep, count, times_in, Pulled, missing, pulled, pull}
use Rattle.rules.specs.Numbers.{names}
use Rattle.laws.specs.Words.{Limits}
use Rattle.rules.specs.Words.{by_manager}
use Rattle.rules.specs.Tables.{Tables, in_state, named, change, manager, runs_as, me, start}
use Rattle.rules.specs.States.{waits_for}
use Rattle.rules.specs.Waking.{Outcome, ◌handing◌, wake_those, notice_of, handed_as, handed, accepts, queue, deliver, stop}
use Rattle.rules.specs.Ending.{ended_set, remove, release, end}
use Rattle.rules.specs.Send.{message, decides, decide, send}
use Rattle.rules.specs.Receive.{wanted_by, received, receive}
use Rattle.rules.specs.Trap.{notice, trap}
use Rattle.rules.specs.Tick.{tick}
use Rattle.rules.specs.Interrupt.{held_for, interrupt}
use Rattle.rules.specs.Requests.{create, terminate, set_over, wait_for_clock, take_held}
use Rattle.rules.specs.Dispatch.{run_next, dispatch}
use Rattle.rules.specs.Events.{decode}
use Rattle.rules.specs.Refusals.{refusal}
use Rattle.rules.specs.Step.{serve, act, Stepped, decided, settle, step}
use Rattle.rules.specs.Runs.{Input, run}
use Rattle.rules.specs.TableRules.{table_rules}
use Rattle.laws.specs.Words.{Wanted, TrapKind, Receiving, Trapped, Nothing, Manager, Unset, Set, Gone, Thread, MessageKind, Ordinary}
use Rattle.laws.specs.Words.{Notice, Message, Held, Runner, Runs, Oneself, Named, Send, Receive, CreateBrother, CreateSon, Terminate}
use Rattle.laws.specs.Words.{SetManager, GetCpuTime, WaitForClock, WaitForIo, Trap, Event, Malformed, ByRunner, Tick, Interrupt}
use Rattle.laws.specs.Once.{unless_awaited, queues, discards, as_message, hands, queued_of, discarded_of, handed_of, waiting_of}
use Rattle.laws.specs.Types.{Entry, Ruled}
use Rattle.laws.specs.Refusals.{call_is, is_send}
use Rattle.laws.specs.Counts.{if_accepted, over_run}
use Rattle.laws.specs.Blocks.{is_receive, entry_of, is_unset, ends}
use Rattle.laws.proofs.Tests.{by_if, and_left, and_false}
use Rattle.laws.proofs.Tally.{count_add, count_same, count_zero, count_keep, count_insert, count_map, any_counts}
use Rattle.laws.proofs.Ordered.{pull_took}
use Rattle.laws.proofs.Queues.{times_self}
use Rattle.laws.proofs.Threads.{looked_up, turned, apart}
use Rattle.laws.proofs.Steps.{called}
use Rattle.laws.proofs.Sound.{tested_ruled}
use Rattle.laws.proofs.Kept.{step_ruled, start_ruled}
use Rattle.laws.proofs.Refusals.{decision_gives_it}
use Rattle.laws.proofs.Blocks.{tick_messages}
use Rattle.laws.proofs.Inboxes.{runs_on, dispatch_messages}

-- ---- the account of one event

pub or_none : (b : Bool) → (b || false) ≡ b
or_none true = refl
or_none false = refl

pub split : (g q : Bool) → one_if q ≡ one_if (not g && q) + one_if (g && q)
split true true = refl
split true false = refl
split false true = refl
split false false = refl

-- the message that a receive hands over is the one that it took
pub handed_back : (m : Message) (n : ℕ) → m.to ≡ n → as_message n (handed m) ≡ m ∷ []
handed_back m n e = go m.kind refl
  where
    go : (k : MessageKind) → m.kind ≡ k → as_message n (handed_as k m.from m.word) ≡ m ∷ []
    go Ordinary i =
        unfold as_message handed_as in
        (ap (λ (x : ℕ). message x m.from m.word ∷ []) (sym e)
        ∙ ap (λ (k : MessageKind). record { to = m.to; from = m.from; kind = k; word = m.word } ∷ []) (sym i))
    go Notice i =
        unfold as_message handed_as in
        (ap (λ (x : ℕ). notice x m.from m.word ∷ []) (sym e)
        ∙ ap (λ (k : MessageKind). record { to = m.to; from = m.from; kind = k; word = m.word } ∷ []) (sym i))

-- a manager is another thread
pub not_own : {L : Limits} (T : Tables) → Ruled L T → (k : TrapKind) (s n : ℕ) → entry_of k s T ≡ Set n → n ≢ s
unfolding Entry
not_own T R k s n g =
    ⊎_elim (λ e. let z : ◌≡◌ {A = ℕ} 0 1 = cc in absurd (omega arith))
    (λ x. subst (λ (y : ℕ). n ≢ y) x.2
    (subst (Entry T.threads x.0.name) (sym x.3 ∙ g) ((R.fits.threads x.0 x.1).entries k)).1)
    (looked_up Unset (λ t. manager k t.managers) s T.threads)

-- so whether it waits for the notice is the same before and after the trapped thread has stopped
pub awaited_as : (m : Message) (s : ℕ) (k : TrapKind) (T : Tables) → m.to ≢ s →
    any (accepts m) (stop s (Trapped k) T).threads ≡ any (accepts m) T.threads
unfolding stop change
awaited_as m s k T d =
    any_counts (accepts m) (accepts m) (map (turned (named s) (in_state (Trapped k) Nothing)) T.threads) T.threads
    (count_map (accepts m) (turned (named s) (in_state (Trapped k) Nothing)) T.threads ∙ count_same _ _ T.threads one)
  where
    one : (t : Thread) → accepts m (turned (named s) (in_state (Trapped k) Nothing) t) ≡ accepts m t
    one t =
        by_if (λ (u : Thread). accepts m u ≡ accepts m t) (named s t)
        (λ e. let o : named m.to t ≡ false = ne_eqb m.to t.name (λ i. d (i ∙ sym (eqb-true s t.name e))) in rw o)
        (λ _. refl)

module _ (p : Message → Bool) where
  -- U is T with q queued and those discarded that pass d
  abbrev Balance : Tables → List Message → (Message → Bool) → Tables → Type 0
  Balance T q d U = count p U.messages + count p (keep d T.messages) ≡ count p T.messages + count p q

  parts : (k d : Message → Bool) (ms : List Message) → ((m : Message) → d m ≡ k m) →
      count p (keep (λ m. not (k m)) ms) + count p (keep d ms) ≡ count p ms
  parts k d ms h = omega (
    arith,
    count_keep p (λ m. not (k m)) ms,
    count_keep p d ms,
    count_add p (λ m. not (k m) && p m) (λ m. d m && p m)
        ms (λ m. rw (h m) (split (k m) (p m))),
  )

  none : (d : Message → Bool) (ms : List Message) → ((m : Message) → d m ≡ false) → count p (keep d ms) ≡ 0
  none d ms h = count_keep p d ms ∙ count_zero _ ms (λ m. rw (h m))

  -- nothing happens to messages
  even : (T U : Tables) (d : Message → Bool) → U.messages ≡ T.messages → ((m : Message) → d m ≡ false) → Balance T [] d U
  unfolding count
  even T U d e h = omega (arith, ap (count p) e, none d T.messages h)

  end_balance : (n : ℕ) (T : Tables) (d : Message → Bool) →
      ((m : Message) → d m ≡ (has m.to (ended_set T.threads n) || has m.from (ended_set T.threads n))) →
      Balance T [] d (end n T)
  unfolding end release remove wake_those count
  end_balance n T d h =
      omega (arith, parts (λ m. has m.to (ended_set T.threads n) || has m.from (ended_set T.threads n)) d T.messages h)

  deliver_balance : (m : Message) (T : Tables) (d : Message → Bool) → ((x : Message) → d x ≡ false) →
      Balance T (unless_awaited m T) d (deliver m T)
  unfolding deliver queue wake_those count
  deliver_balance m T d h = go (any (accepts m) T.threads) refl
    where
      go : (b : Bool) → any (accepts m) T.threads ≡ b → Balance T (unless_awaited m T) d (deliver m T)
      go true e = rw e (even T T d refl h)
      go false e = rw e (omega (arith, none d T.messages h, count_insert p (λ x. leb x.to m.to) m T.messages))

  send_balance : (s to w : ℕ) (T : Tables) →
      Balance T (if decides s to T then [] else unless_awaited (message to s w) T)
      (λ m. (decides s to T && w == 0 && notice_of to m)
      || (has m.to (if decides s to T && not (w == 0) then ended_set T.threads to else [])
      || has m.from (if decides s to T && not (w == 0) then ended_set T.threads to else [])))
      (send s to w T)
  unfolding send decide wake_those any count
  send_balance s to w T = go (decides s to T) refl w
    where
      go : (b : Bool) → decides s to T ≡ b → (w : ℕ) →
          Balance T (if decides s to T then [] else unless_awaited (message to s w) T)
          (λ m. (decides s to T && w == 0 && notice_of to m)
          || (has m.to (if decides s to T && not (w == 0) then ended_set T.threads to else [])
          || has m.from (if decides s to T && not (w == 0) then ended_set T.threads to else [])))
          (send s to w T)
      go true e zero =
          rw e (omega (arith, parts (notice_of to) (λ m. notice_of to m || false) T.messages (λ m. or_none (notice_of to m))))
      go true e (suc w) = rw (e, ne_eqb (suc w) 0 (λ i. omega arith)) (end_balance to T _ (λ m. refl))
      go false e w = rw e (deliver_balance (message to s w) T _ (λ m. refl))

  trap_balance : {L : Limits} (T : Tables) → Ruled L T → (s : ℕ) (k : TrapKind) (c : ℕ) →
      Balance T (by_manager [] (λ n. unless_awaited (notice n s c) T) (entry_of k s T))
      (λ m. has m.to (by_manager (ended_set T.threads s) (λ n. []) (entry_of k s T))
      || has m.from (by_manager (ended_set T.threads s) (λ n. []) (entry_of k s T)))
      (trap s k c T)
  unfolding trap any
  trap_balance T R s k c = go (entry_of k s T) refl
    where
      go : (g : Manager) → entry_of k s T ≡ g →
          Balance T (by_manager [] (λ n. unless_awaited (notice n s c) T) g)
          (λ m. has m.to (by_manager (ended_set T.threads s) (λ n. []) g)
          || has m.from (by_manager (ended_set T.threads s) (λ n. []) g))
          (by_manager (end s T) (λ n. deliver (notice n s c) (stop s (Trapped k) T)) g)
      go Unset e = end_balance s T _ (λ m. refl)
      go (Set n) e = subst (λ (b : Bool). Balance T (if b then [] else notice n s c ∷ []) (λ m. false || false)
          (deliver (notice n s c) (stop s (Trapped k) T))) (awaited_as (notice n s c) s k T (not_own T R k s n e)) (unfold stop change in
          deliver_balance (notice n s c) (stop s (Trapped k) T) _ (λ m. refl))
      go Gone e = end_balance s T _ (λ m. refl)

  -- ---- the account of a step

  abbrev Account : Tables → Event → Stepped → ℕ → ℕ → Type 0
  Account T e s q d = count p s.tables.messages + count p (hands T e s.decision) + d ≡ count p T.messages + q

  -- an event that is no receive
  other : (T : Tables) (e : Event) → is_receive (λ w. true) e ≡ false → Balance T (queues T e) (discards T e) (act T e).tables →
      Account T e (settle 0 T e) (count p (queues T e)) (count p (keep (discards T e) T.messages))
  unfolding settle hands count
  other T e h b = rw h (omega (arith, b, ap (count p) (dispatch_messages (act T e))))

  -- an answer of no thread
  no_message : (n : ℕ) (b : Bool) → count p (if b then as_message n Nothing else []) ≡ 0
  unfolding as_message count
  no_message n b = by_if (λ (l : List Message). count p l ≡ 0) b (λ _. refl) (λ _. refl)

  refused : (r : ℕ) (T : Tables) (e : Event) → Account T e (settle (suc r) T e) 0 0
  unfolding settle hands
  refused r T e = omega (arith, no_message (me T.runner) (is_receive (λ w. true) e && me T.runner == me T.runner))

  -- a receive of the runner s
  module _ {L : Limits} (T : Tables) (R : Ruled L T) (s q : ℕ) (w : Wanted) (h : T.runner ≡ Runs s q) where
    abbrev event : Event
    event = ByRunner (Receive w)

    kept : count p (keep (discards T event) T.messages) ≡ 0
    unfolding discards ends is_send call_is any
    kept = none (discards T event) T.messages (λ m. refl)

    runs_as_s : me T.runner ≡ s
    unfolding me
    runs_as_s = ap me h

    received_as : (x : Pulled Message) → pull (wanted_by s w) T.messages ≡ x → act T event ≡ received s w T x
    received_as x j = unfold act serve receive in (ap (λ (n : ℕ). receive n w T) runs_as_s ∙ unfold receive in ap (received s w T) j)

    -- the runner is not ready
    not_ready : (n : ℕ) (ns : List ℕ) → T.ready ≡ n ∷ ns → n ≢ s
    unfolding runs_as
    not_ready n ns e i =
        omega (
          arith,
          apart s T.threads,
          R.inv.agree.once s,
          R.inv.agree.run s,
          ap (λ (r : Runner). one_if (runs_as s r)) h,
          ap one_if (eq-eqb s s refl),
          R.inv.agree.wait s,
          ap (λ (l : List ℕ). times_in l s) (e ∙ ap (λ (x : ℕ). x ∷ ns) i),
          times_self s ns,
        )

    -- it takes one, and goes on with it
    takes : (m : Message) (ms : List Message) → pull (wanted_by s w) T.messages ≡ pulled m ms →
        Account T event (decided 0 (dispatch (received s w T (pulled m ms)))) 0 0
    unfolding received hands is_receive call_is count
    takes m ms j = subst (λ (o : Outcome). Account T event (decided 0 o) 0 0) (sym (runs_on (received s w T (pulled m ms)) s q h)) on
      where
        to_me : m.to ≡ me T.runner
        to_me = eqb-true m.to s (and_left (m.to == s) _ (pull_took (wanted_by s w) T.messages j).passes) ∙ sym runs_as_s

        on : count p ms + count p (if me T.runner == me T.runner then as_message (me T.runner) (handed m) else [])
            + 0 ≡ count p T.messages + 0
        on = rw (eq-eqb (me T.runner) (me T.runner) refl, handed_back m (me T.runner) to_me)
            (omega (arith, (pull_took (wanted_by s w) T.messages j).each p))

    -- it waits, and another runs or nobody
    waits : Account T event (decided 0 (dispatch (received s w T missing))) 0 0
    unfolding received dispatch stop change run_next hands is_receive call_is count me
    waits = go T.ready refl
      where
        go : (l : List ℕ) → T.ready ≡ l → Account T event (decided 0 (run_next l (stop s (Receiving w) T handing Nothing))) 0 0
        go [] e = omega (arith, no_message 255 (255 == me T.runner))
        go (n ∷ ns) e = let o : (n == me T.runner) ≡ false = ne_eqb n (me T.runner) (λ i. not_ready n ns e (i ∙ runs_as_s)) in
            rw o (omega arith)

    receive_account : Account T event (settle 0 T event) (count p (queues T event)) (count p (keep (discards T event) T.messages))
    unfolding queues settle count
    receive_account = go (pull (wanted_by s w) T.messages) refl
      where
        go : (x : Pulled Message) → pull (wanted_by s w) T.messages ≡ x →
            Account T event (decided 0 (dispatch (act T event))) 0 (count p (keep (discards T event) T.messages))
        go missing j = subst (λ (o : Outcome). Account T event (decided 0 (dispatch o)) 0 (count p (keep (discards T event) T.messages)))
            (sym (received_as missing j)) (rw kept waits)
        go (pulled m ms) j = subst (λ (o : Outcome). Account T event (decided 0 (dispatch o)) 0
            (count p (keep (discards T event) T.messages))) (sym (received_as (pulled m ms) j)) (rw kept (takes m ms j))

  pub accepted : (L : Limits) (T : Tables) → Ruled L T → (e : Event) → refusal L T e ≡ 0 →
      Account T e (settle 0 T e) (count p (queues T e)) (count p (keep (discards T e) T.messages))
  unfolding is_receive call_is is_send queues discards ends act serve any
  accepted L T R Malformed a = other T Malformed refl (even T T _ refl (λ m. refl))
  accepted L T R (ByRunner (Send to w)) a = other T (ByRunner (Send to w)) refl (send_balance (me T.runner) to w T)
  accepted L T R (ByRunner (Receive w)) a = let C = called L T (Receive w) a in receive_account T R C.name C.slice w C.runner
  accepted L T R (ByRunner CreateBrother) a =
      other T (ByRunner CreateBrother) refl (even T (act T (ByRunner CreateBrother)).tables _ (unfold create in refl) (λ m. refl))
  accepted L T R (ByRunner CreateSon) a =
      other T (ByRunner CreateSon) refl (even T (act T (ByRunner CreateSon)).tables _ (unfold create in refl) (λ m. refl))
  accepted L T R (ByRunner (Terminate Oneself)) a =
      other T (ByRunner (Terminate Oneself)) refl (unfold terminate in end_balance (me T.runner) T _ (λ m. refl))
  accepted L T R (ByRunner (Terminate (Named n))) a =
      other T (ByRunner (Terminate (Named n))) refl (unfold terminate in end_balance n T _ (λ m. refl))
  accepted L T R (ByRunner (SetManager k n)) a =
      other T (ByRunner (SetManager k n)) refl (go (me T.runner) (entry_of k (me T.runner) T))
    where
      go : (s : ℕ) (g : Manager) →
          Balance T [] (λ m. has m.to (if is_unset g then [] else ended_set T.threads s)
          || has m.from (if is_unset g then [] else ended_set T.threads s)) (set_over g s k n T).tables
      go s Unset = unfold is_unset in even T (set_over Unset s k n T).tables _ (unfold set_over change in refl) (λ m. refl)
      go s (Set x) = unfold set_over is_unset in end_balance s T _ (λ m. refl)
      go s Gone = unfold set_over is_unset in end_balance s T _ (λ m. refl)
  accepted L T R (ByRunner GetCpuTime) a = other T (ByRunner GetCpuTime) refl (even T T _ refl (λ m. refl))
  accepted L T R (ByRunner WaitForClock) a = other T (ByRunner WaitForClock) refl
      (even T (act T (ByRunner WaitForClock)).tables _ (unfold wait_for_clock stop change in refl) (λ m. refl))
  accepted L T R (ByRunner (WaitForIo d)) a = other T (ByRunner (WaitForIo d)) refl
      (even T (act T (ByRunner (WaitForIo d))).tables _ (go (pull (held_for d) T.held)) (λ m. refl))
    where
      go : (x : Pulled Held) → (take_held (me T.runner) d T x).tables.messages ≡ T.messages
      go missing = unfold take_held stop change in refl
      go (pulled y ys) = unfold take_held in refl
  accepted L T R (ByRunner (Trap k c)) a = other T (ByRunner (Trap k c)) refl (trap_balance T R (me T.runner) k c)
  accepted L T R Tick a = other T Tick refl (even T (tick T) _ (tick_messages T) (λ m. refl))
  accepted L T R (Interrupt d w) a =
      other T (Interrupt d w) refl
      (even T (interrupt d w T) _ (unfold interrupt wake_those in
      by_if (λ (U : Tables). U.messages ≡ T.messages) (any (waits_for d) T.threads) (λ _. refl) (λ _. refl)) (λ m. refl))

  pub stepped : (L : Limits) (T : Tables) → Ruled L T → (bytes : List ℕ) →
      waiting_of p (step L T bytes).tables + count p (hands T (decode bytes) (step L T bytes).decision)
      + if_accepted (λ U e. count p (keep (discards U e) U.messages)) L T bytes
      ≡ waiting_of p T + if_accepted (λ U e. count p (queues U e)) L T bytes
  unfolding step
  stepped L T R bytes = go (refusal L T (decode bytes)) refl
    where
      go : (r : ℕ) → refusal L T (decode bytes) ≡ r →
          Account T (decode bytes) (settle r T (decode bytes)) (if r == 0 then count p (queues T (decode bytes)) else 0)
          (if r == 0 then count p (keep (discards T (decode bytes)) T.messages) else 0)
      go zero a = accepted L T R (decode bytes) a
      go (suc r) a = rw (ne_eqb (suc r) 0 (λ i. omega arith)) (refused r T (decode bytes))

  ruled_account : (L : Limits) → L.threads < names → (T : Tables) → Ruled L T → (es : Input) →
      waiting_of p T + queued_of p L T es ≡ handed_of p L T es + discarded_of p L T es + waiting_of p (run L T es)
  unfolding run over_run handed_of
  ruled_account L few T R [] = omega arith
  ruled_account L few T R (e ∷ es) = omega (arith, stepped L T R e, ruled_account L few (step L T e).tables (step_ruled e few R) es)

-- ---- the laws

-- From a start, over any run, for every test on messages: what was queued has been handed over, has been discarded, or waits. So each is
-- handed over once at most, and one that has been discarded is not.
pub queued_leaves_once : (p : Message → Bool) (L : Limits) → 1 ≤ L.threads → L.threads < names → (es : Input) →
    queued_of p L start es ≡ handed_of p L start es + discarded_of p L start es + waiting_of p (run L start es)
unfolding count
queued_leaves_once p L some few es = omega (arith, ruled_account p L few start (start_ruled L some) es)

-- The same from any tables that meet the rules: what waits there counts as queued.
pub waiting_leaves_once : (p : Message → Bool) (L : Limits) → L.threads < names → (T : Tables) → table_rules L T ≡ true → (es : Input) →
    waiting_of p T + queued_of p L T es ≡ handed_of p L T es + discarded_of p L T es + waiting_of p (run L T es)
waiting_leaves_once p L few T h es = ruled_account p L few T (tested_ruled L T h) es

-- What an event discards is never handed over: of messages and notices that it discards, all that are handed over from then on were
-- queued from then on.
pub discarded_is_never_handed : (p : Message → Bool) (L : Limits) → L.threads < names → (T : Tables) → table_rules L T ≡ true →
    (e : List ℕ) →
    (step L T e).decision.refusal ≡ 0 → ((m : Message) → p m ≡ true → discards T (decode e) m ≡ true) → (es : Input) →
    handed_of p L T (e ∷ es) ≤ queued_of p L T (e ∷ es)
unfolding over_run
discarded_is_never_handed p L few T h e a all es =
    omega (arith, waiting_leaves_once p L few T h (e ∷ es), gone)
  where
    every : count p (keep (discards T (decode e)) T.messages) ≡ count p T.messages
    every = count_keep p (discards T (decode e)) T.messages
        ∙ count_same _ _ T.messages (λ m. one (p m) (discards T (decode e) m) (all m))
      where
        one : (b c : Bool) → (b ≡ true → c ≡ true) → (c && b) ≡ b
        one true c i = rw (i refl)
        one false c i = and_false c

    gone : if_accepted (λ U x. count p (keep (discards U x) U.messages)) L T e ≡ waiting_of p T
    gone = ap (λ (r : ℕ). if r == 0 then count p (keep (discards T (decode e)) T.messages) else 0) (sym (decision_gives_it L T e) ∙ a)
        ∙ every
