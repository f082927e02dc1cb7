-- Every message and every notice that is sent is handed over once at most, by any decision: from an inbox, or as the answer that was due to
-- a thread. One that is discarded, or was due to a thread that ends, is not. Equal messages are counted, as in Once.antt.
use Rattle.std.proofs.Common.{if◌then◌else◌, ◌==◌}
use Prim.Native.Nat.{ℕ, zero, suc, ◌+◌, ◌≤◌, ◌<◌}
use mathlib.Core.Path.{◌≡◌, refl, sym, ap, ◌∙◌, subst}
use mathlib.Core.Logic.{⊎_elim}
use mathlib.Core.Bool.{Bool, true, false, ◌&&◌, ◌||◌, not, false≢true}
use mathlib.Core.List.{List, [], ◌∷◌, map, Memᴰ}
use native.Mathlib.Omega.{arith}
use lib.Dec.{ltb}
use borrow.Author.Tests.{eqb-true, eq-eqb, ne_eqb}
use Rattle.rules.specs.Lists.{one_if, any, has, keep, count, insert, Pulled, missing, pulled, pull}
use Rattle.rules.specs.Numbers.{names, beat_ticks}
use Rattle.laws.specs.Words.{Limits}
use Rattle.rules.specs.Words.{by_manager, by_runner}
use Rattle.rules.specs.Tables.{Tables, with_time, with_clock, in_state, with_ticks, named, with_messages, with_managers, of_thread, change}
use Rattle.rules.specs.Tables.{set_entry, new_thread, runs_as, me, start}
use Rattle.rules.specs.States.{is_ready, on_clock, receives, at_device, waits_for, trapped_on, awaits}
use Rattle.rules.specs.Waking.{Outcome, wake_those, notice_of, handed, accepts, queue, deliver, stop}
use Rattle.rules.specs.Ending.{ended_set, without_managers, remove, misses, told_gone, release, end}
use Rattle.rules.specs.Send.{message, waits_for_decision, decides, decide, send}
use Rattle.rules.specs.Receive.{wanted_by, received, receive}
use Rattle.rules.specs.Trap.{notice, trap}
use Rattle.rules.specs.Interrupt.{held_for, interrupt}
use Rattle.rules.specs.Requests.{next_name, create, terminate, set_over, wait_for_clock, take_held}
use Rattle.rules.specs.Dispatch.{run_next, dispatch}
use Rattle.rules.specs.Events.{decode}
use Rattle.rules.specs.Refusals.{refusal}
use Rattle.rules.specs.Step.{serve, act, Stepped, decided, settle, step}
use Rattle.rules.specs.Runs.{Input, run}
use Rattle.rules.specs.TableRules.{table_rules}
use Rattle.rules.specs.Tick.{one_more, charge, beat, rotate, tick}
use Rattle.laws.specs.Words.{Wanted, Anybody, Only, TrapKind, State, Running, Ready, Receiving, Clock, Device, Trapped, Answer}
use Rattle.laws.specs.Words.{Nothing, FromMessage, FromNotice, SenderGone, Result, Manager, Unset, Set, Gone, Parent, Thread, Message}
use Rattle.laws.specs.Words.{Held, Runner, NoRunner, Runs, Oneself, Named, Send, Receive, CreateBrother, CreateSon, Terminate}
use Rattle.laws.specs.Words.{SetManager, GetCpuTime, WaitForClock, WaitForIo, Trap, Event, Malformed, ByRunner, Tick, Interrupt}
use Rattle.laws.specs.Words.{Decision}
use Rattle.laws.specs.Sent.{owes, sends, sent_of, delivered_of, dropped_by, dropped_of, open_of}
use Rattle.laws.specs.Types.{Inv, Ruled}
use Rattle.laws.specs.Refusals.{call_is}
use Rattle.laws.specs.Counts.{if_accepted, over_run}
use Rattle.laws.specs.Blocks.{is_receive, entry_of, is_unset, ends}
use Rattle.laws.specs.Once.{unless_awaited, queues, as_message, hands}
use Rattle.laws.proofs.Tests.{by_if, by_runs, clash, and_left, and_right, and_true, and_false}
use Rattle.laws.proofs.Tally.{count_map, count_same, count_zero, count_keep, count_less, count_add, any_count, none_count}
use Rattle.laws.proofs.Tally.{member_any, count_insert, count_only}
use Rattle.laws.proofs.Members.{mem_map, mem_keep}
use Rattle.laws.proofs.Threads.{live_member, looked_up, of_only, turned, turned_name, names_kept, here_is, apart, left}
use Rattle.laws.proofs.Steps.{called}
use Rattle.laws.proofs.PlacesKept.{charge_inv, beat_inv, act_inv}
use Rattle.laws.proofs.Sound.{tested_ruled}
use Rattle.laws.proofs.Kept.{step_ruled, start_ruled}
use Rattle.laws.proofs.Inboxes.{runs_on, dispatch_messages}
use Rattle.laws.proofs.Once.{or_none, split, handed_back, not_own, awaited_as, accepted}

-- ---- threads and answers

-- who is not ready has no answer
abbrev Calm : List Thread → Type 0
Calm ts = (t : Thread) → Memᴰ t ts → is_ready t.state ≡ false → t.answer ≡ Nothing

no_one : (b : Bool) → one_if b ≡ 0 → b ≡ false
no_one true e = absurd (omega arith)
no_one false e = refl

ready_is : is_ready Ready ≡ true
unfolding is_ready
ready_is = refl

no_clock : (s : State) → on_clock s ≡ true → is_ready s ≡ false
unfolding on_clock is_ready
no_clock Running e = absurd (false≢true e)
no_clock Ready e = absurd (false≢true e)
no_clock (Receiving w) e = absurd (false≢true e)
no_clock Clock e = refl
no_clock (Device d) e = absurd (false≢true e)
no_clock (Trapped k) e = absurd (false≢true e)

no_receiver : (n : ℕ) (s : State) → receives n s ≡ true → is_ready s ≡ false
unfolding receives is_ready
no_receiver n Running e = absurd (false≢true e)
no_receiver n Ready e = absurd (false≢true e)
no_receiver n (Receiving w) e = refl
no_receiver n Clock e = absurd (false≢true e)
no_receiver n (Device d) e = absurd (false≢true e)
no_receiver n (Trapped k) e = absurd (false≢true e)

no_waiter : (d : ℕ) (s : State) → at_device d s ≡ true → is_ready s ≡ false
unfolding at_device is_ready
no_waiter d Running e = absurd (false≢true e)
no_waiter d Ready e = absurd (false≢true e)
no_waiter d (Receiving w) e = absurd (false≢true e)
no_waiter d Clock e = absurd (false≢true e)
no_waiter d (Device x) e = refl
no_waiter d (Trapped k) e = absurd (false≢true e)

no_misser : (set : List ℕ) (s : State) → misses set s ≡ true → is_ready s ≡ false
unfolding misses is_ready
no_misser set Running e = absurd (false≢true e)
no_misser set Ready e = absurd (false≢true e)
no_misser set (Receiving w) e = refl
no_misser set Clock e = absurd (false≢true e)
no_misser set (Device d) e = absurd (false≢true e)
no_misser set (Trapped k) e = absurd (false≢true e)

no_decided : (n : ℕ) (t : Thread) → awaits n t ≡ true → is_ready t.state ≡ false
no_decided n t e = go t.state e
  where
    go : (s : State) → trapped_on n t.managers s ≡ true → is_ready s ≡ false
    go Running i = unfold trapped_on in absurd (false≢true i)
    go Ready i = unfold trapped_on in absurd (false≢true i)
    go (Receiving w) i = unfold trapped_on in absurd (false≢true i)
    go Clock i = unfold trapped_on in absurd (false≢true i)
    go (Device d) i = unfold trapped_on in absurd (false≢true i)
    go (Trapped k) i = unfold is_ready in refl

-- word of an end is no message
gone_is_none : (n : ℕ) (s : State) → as_message n (told_gone s) ≡ []
unfolding told_gone as_message
gone_is_none n Running = refl
gone_is_none n Ready = refl
gone_is_none n (Receiving Anybody) = refl
gone_is_none n (Receiving (Only m)) = refl
gone_is_none n Clock = refl
gone_is_none n (Device d) = refl
gone_is_none n (Trapped k) = refl

add_in : {A : Type 0} (q r s : A → Bool) (xs : List A) → ((x : A) → Memᴰ x xs → one_if (q x) ≡ one_if (r x) + one_if (s x)) →
    count q xs ≡ count r xs + count s xs
unfolding count
add_in q r s [] h = omega arith
add_in q r s (x ∷ xs) h = omega (arith, h x (Memᴰ.head refl), add_in q r s xs (λ y m. h y (Memᴰ.tail m)))

module _ (p : Message → Bool) where
  abbrev due : Tables → ℕ
  due T = count (owes p) T.threads

  single : (b : Bool) → one_if b + 0 ≡ one_if (b || false)
  single true = refl
  single false = refl

  -- an answer is one message at most
  one_answer : (n : ℕ) (a : Answer) → count p (as_message n a) ≡ one_if (any p (as_message n a))
  unfolding as_message count any
  one_answer n Nothing = refl
  one_answer n (FromMessage s w) = single (p _)
  one_answer n (FromNotice s c) = single (p _)
  one_answer n (SenderGone s) = refl
  one_answer n (Result w) = refl

  none_due : (t : Thread) → as_message t.name t.answer ≡ [] → owes p t ≡ false
  unfolding owes any
  none_due t e = ap (any p) e

  silent : (t : Thread) → t.answer ≡ Nothing → owes p t ≡ false
  silent t e = none_due t (unfold as_message in ap (as_message t.name) e)

  same_in : (f : Thread → Thread) (ts : List Thread) → ((t : Thread) → Memᴰ t ts → owes p (f t) ≡ owes p t) →
      count (owes p) (map f ts) ≡ count (owes p) ts
  same_in f ts h = omega (
    arith,
    count_map (owes p) f ts,
    add_in (λ t. owes p (f t)) (owes p) (λ t. false) ts
        (λ t m. omega (arith, ap one_if (h t m))),
    count_zero (λ (t : Thread). false) ts (λ t. refl),
  )

  wake_due : (q : Thread → Bool) (a : Thread → Answer) (ns : List ℕ) (T : Tables) →
      ((t : Thread) → Memᴰ t T.threads → q t ≡ true → owes p t ≡ false) → ((t : Thread) → as_message t.name (a t) ≡ []) →
      due (wake_those q a ns T) ≡ due T
  unfolding wake_those
  wake_due q a ns T h k =
      same_in (turned q (λ t. in_state Ready (a t) t)) T.threads
      (λ t m. by_if (λ (u : Thread). owes p u ≡ owes p t) (q t) (λ e. none_due (in_state Ready (a t) t) (k t) ∙ sym (h t m e)) (λ _. refl))

  change_due : (n : ℕ) (f : Thread → Thread) (T : Tables) →
      ((t : Thread) → Memᴰ t T.threads → named n t ≡ true → owes p (f t) ≡ owes p t) → due (change n f T) ≡ due T
  unfolding change
  change_due n f T h =
      same_in (turned (named n) f) T.threads (λ t m. by_if (λ (u : Thread). owes p u ≡ owes p t) (named n t) (h t m) (λ _. refl))

  -- nothing is due to the runner
  runner_silent : {L : Limits} {T : Tables} → Inv L T → Calm T.threads → (s q : ℕ) → T.runner ≡ Runs s q → (t : Thread) →
      Memᴰ t T.threads → named s t ≡ true → owes p t ≡ false
  unfolding runs_as
  runner_silent {L} {T} I C s q h t m e =
      silent t (C t m (no_one (is_ready t.state) (omega (
        arith,
        here_is is_ready T.threads I.agree.once t m,
        apart t.name T.threads,
        I.agree.once t.name,
        I.agree.run t.name,
        ap (λ (r : Runner). one_if (runs_as t.name r)) h,
        ap one_if (eq-eqb t.name s (sym (eqb-true s t.name e))),
      ))))

  stop_due : {L : Limits} {T : Tables} → Inv L T → Calm T.threads → (s q : ℕ) → T.runner ≡ Runs s q → (to : State) →
      due (stop s to T) ≡ due T
  unfolding stop
  stop_due {T = T} I C s q h to =
      change_due s (in_state to Nothing) T (λ t m e. silent (in_state to Nothing t) refl ∙ sym (runner_silent I C s q h t m e))

  end_due : (n : ℕ) (T : Tables) → Calm T.threads →
      due (end n T) + count (λ t. has t.name (ended_set T.threads n) && owes p t) T.threads ≡ due T
  unfolding end release
  end_due n T C = omega (
    arith,
    freed,
    kept,
    count_keep (owes p) (λ t. not (out t)) T.threads,
    count_add (owes p) (λ t. not (out t)
        && owes p t) (λ t. out t && owes p t) T.threads (λ t. split (out t) (owes p t)),
  )
    where
      set : List ℕ
      set = ended_set T.threads n

      out : Thread → Bool
      out t = has t.name (ended_set T.threads n)

      freed : due (release (ended_set T.threads n) (remove (ended_set T.threads n) T)) ≡ due (remove (ended_set T.threads n) T)
      freed = wake_due (λ t. misses set t.state) (λ t. told_gone t.state) _ (remove set T) quiet
          (λ t. gone_is_none t.name t.state)
        where
          quiet : (t : Thread) → Memᴰ t (remove (ended_set T.threads n) T).threads →
              misses (ended_set T.threads n) t.state ≡ true → owes p t ≡ false
          quiet t m e =
              unfold remove without_managers in
              let r = mem_map (without_managers set) (left set T.threads) m in
              let k = mem_keep (λ u. not (has u.name set)) T.threads r.1 in
              silent t (ap (λ (u : Thread). u.answer) r.2
              ∙ C r.0 k.0 (no_misser set r.0.state (ap (λ (u : Thread). misses set u.state) (sym r.2) ∙ e)))

      kept : due (remove (ended_set T.threads n) T) ≡ count (owes p) (keep (λ t. not (out t)) T.threads)
      kept = unfold remove without_managers owes in same_in (without_managers set) (left set T.threads) (λ t m. refl)

  -- a message or notice that its receiver waits for becomes due to it
  deliver_due : (m : Message) (T : Tables) → ((n : ℕ) → count (named n) T.threads ≤ 1) → Calm T.threads →
      due (deliver m T) ≡ due T + count p (if any (accepts m) T.threads then m ∷ [] else [])
  unfolding deliver queue wake_those count
  deliver_due m T once C = go (any (accepts m) T.threads) refl
    where
      quiet : (t : Thread) → Memᴰ t T.threads → accepts m t ≡ true → owes p t ≡ false
      quiet t i e = silent t (C t i (no_receiver m.from t.state (and_right (named m.to t) _ e)))

      given : (t : Thread) → accepts m t ≡ true → owes p (in_state Ready (handed m) t) ≡ p m
      given t e = unfold owes any in
          (ap (any p) (handed_back m t.name (eqb-true m.to t.name (and_left (named m.to t) _ e))) ∙ or_none (p m))

      pointwise : (t : Thread) → Memᴰ t T.threads →
          one_if (owes p (turned (accepts m) (λ u. in_state Ready (handed m) u) t)) ≡ one_if (owes p t) + one_if (accepts m t && p m)
      pointwise t i = at (accepts m t) refl
        where
          at : (b : Bool) → accepts m t ≡ b → one_if (owes p (if b then in_state Ready (handed m) t else t)) ≡ one_if (owes p t)
              + one_if (b && p m)
          at true e = omega (arith, ap one_if (given t e), ap one_if (quiet t i e))
          at false e = omega arith

      received_once : any (accepts m) T.threads ≡ true → count (λ t. accepts m t && p m) T.threads ≡ one_if (p m)
      received_once e = at (p m)
        where
          at : (b : Bool) → count (λ t. accepts m t && b) T.threads ≡ one_if b
          at true =
              omega (
                arith,
                count_same (λ t. accepts m t && true) (accepts m) T.threads (λ t. and_true (accepts m t)),
                any_count (accepts m) T.threads e,
                count_less (accepts m) (named m.to) T.threads (λ t i. and_left (named m.to t) _ i),
                once m.to,
              )
          at false = count_zero _ T.threads (λ t. and_false (accepts m t))

      go : (b : Bool) → any (accepts m) T.threads ≡ b →
          due (deliver m T) ≡ due T + count p (if any (accepts m) T.threads then m ∷ [] else [])
      go true e =
          rw e (omega (
            arith,
            count_map (owes p) (turned (accepts m) (λ u. in_state Ready (handed m) u)) T.threads,
            add_in (λ t. owes p (turned (accepts m) (λ u. in_state Ready (handed m) u) t)) (owes p) (λ t. accepts m t && p m) T.threads
                pointwise,
            received_once e,
          ))
      go false e = rw e (omega arith)

  tick_due : {L : Limits} (T : Tables) → Inv L T → Calm T.threads → due (tick T) ≡ due T
  unfolding tick
  tick_due {L} T I C = turned_due (beat (charge T)) (beat_inv (charge_inv I)) (beat_calm (charge T) (charge_calm T C))
      ∙ beat_due (charge T) (charge_calm T C) ∙ charge_due T
    where
      charge_due : (U : Tables) → due (charge U) ≡ due U
      charge_due U = unfold charge owes in
          by_runs (λ (W : Tables). due W ≡ due U) U.runner (λ _. refl)
          (λ n s _. change_due n (λ t. with_ticks (one_more t.ticks) t) U (λ t m e. refl))

      charge_calm : (U : Tables) → Calm U.threads → Calm (charge U).threads
      charge_calm U D = unfold charge change in by_runs (λ (W : Tables). Calm W.threads) U.runner (λ _. D) (λ n s _. ticked n)
        where
          ticked : (n : ℕ) → Calm (map (turned (named n) (λ t. with_ticks (one_more t.ticks) t)) U.threads)
          ticked n u m e =
              let r = mem_map (turned (named n) (λ t. with_ticks (one_more t.ticks) t)) U.threads m in
              ap (λ (x : Thread). x.answer) r.2 ∙ same_answer n r.0
              ∙ D r.0 r.1 (sym (ap is_ready (ap (λ (x : Thread). x.state) r.2 ∙ same_state n r.0)) ∙ e)
            where
              same_answer : (n : ℕ) (t : Thread) → (turned (named n) (λ t. with_ticks (one_more t.ticks) t) t).answer ≡ t.answer
              same_answer n t = by_if (λ (x : Thread). x.answer ≡ t.answer) (named n t) (λ _. refl) (λ _. refl)

              same_state : (n : ℕ) (t : Thread) → (turned (named n) (λ t. with_ticks (one_more t.ticks) t) t).state ≡ t.state
              same_state n t = by_if (λ (x : Thread). x.state ≡ t.state) (named n t) (λ _. refl) (λ _. refl)

      beat_due : (U : Tables) → Calm U.threads → due (beat U) ≡ due U
      beat_due U D =
          unfold beat in by_if (λ (W : Tables). due W ≡ due U) (U.since + 1 == beat_ticks)
          (λ _. wake_due (λ t. on_clock t.state) (λ t. Result (one_more U.beats)) U.clock
          (with_clock [] (with_time 0 (one_more U.beats) U)) (λ t m e. silent t (D t m (no_clock t.state e)))
          (λ t. unfold as_message in refl))
          (λ _. refl)

      beat_calm : (U : Tables) → Calm U.threads → Calm (beat U).threads
      beat_calm U D = unfold beat wake_those in by_if (λ (W : Tables). Calm W.threads) (U.since + 1 == beat_ticks) (λ _. woken) (λ _. D)
        where
          woken : Calm (map (turned (λ t. on_clock t.state) (λ t. in_state Ready (Result (one_more U.beats)) t)) U.threads)
          woken u m e = let r = mem_map (turned (λ t. on_clock t.state) (λ t. in_state Ready (Result (one_more U.beats)) t))
              U.threads m in ap (λ (x : Thread). x.answer) r.2
              ∙ at r.0 r.1 (sym (ap (λ (x : Thread). is_ready x.state) r.2) ∙ e)
            where
              at : (t : Thread) → Memᴰ t U.threads →
                  is_ready (turned (λ t. on_clock t.state) (λ t. in_state Ready (Result (one_more U.beats)) t) t).state ≡ false →
                  (turned (λ t. on_clock t.state) (λ t. in_state Ready (Result (one_more U.beats)) t) t).answer ≡ Nothing
              at t i = by_if (λ (x : Thread). is_ready x.state ≡ false → x.answer ≡ Nothing) (on_clock t.state)
                  (λ _ k. absurd (clash ready_is k)) (λ _. D t i)

      turned_due : (U : Tables) → Inv L U → Calm U.threads → due (rotate U) ≡ due U
      turned_due U K D =
          unfold rotate in by_runs (λ (W : Tables). due W ≡ due U) U.runner (λ _. refl)
          (λ n s e. by_if (λ (W : Tables). due W ≡ due U) (s == 0)
          (λ _. wake_due (named n) (λ t. Nothing) (n ∷ []) U (λ t m i. runner_silent K D n s e t m i) (λ t. unfold as_message in refl))
          (λ _. refl))

  -- a dispatch hands over what is due to the thread that it runs; what the event itself hands over is no message here
  dispatch_due : (o : Outcome) → ((n : ℕ) → count (named n) o.tables.threads ≤ 1) → ((n : ℕ) → as_message n o.answer ≡ []) →
      due (dispatch o).tables + count p (as_message (me (dispatch o).tables.runner) (dispatch o).answer) ≡ due o.tables
  unfolding dispatch count
  dispatch_due o once plain = go o.tables.runner o.tables.ready refl refl
    where
      ts : List Thread
      ts = o.tables.threads

      as_it_was : due o.tables + count p (as_message (me o.tables.runner) o.answer) ≡ due o.tables
      as_it_was = rw (plain (me o.tables.runner)) (omega arith)

      pointwise : (n : ℕ) (t : Thread) → Memᴰ t o.tables.threads →
          one_if (owes p t) ≡ one_if (owes p (turned (named n) (in_state Running Nothing) t)) + one_if (named n t && owes p t)
      pointwise n t m = at (named n t)
        where
          at : (b : Bool) → one_if (owes p t) ≡ one_if (owes p (if b then in_state Running Nothing t else t)) + one_if (b && owes p t)
          at true = omega (arith, ap one_if (silent (in_state Running Nothing t) refl))
          at false = omega arith

      front : (n : ℕ) (b : Bool) → any (named n) o.tables.threads ≡ b →
          count (λ t. named n t && owes p t) o.tables.threads ≡ count p
          (as_message n (of_thread Nothing (λ t. t.answer) n o.tables.threads))
      front n true e =
          let r = live_member ts n e in
          count_only (named n) (owes p) ts (once n) r.0 r.1 (eq-eqb n r.0.name r.2)
          ∙ unfold owes in (ap (λ (x : ℕ). one_if (any p (as_message x r.0.answer))) (sym r.2) ∙ sym (one_answer n r.0.answer))
          ∙ ap (λ (a : Answer). count p (as_message n a)) (sym (of_only Nothing (λ t. t.answer) n ts (once n) r.0 r.1 (sym r.2)))
      front n false e =
          count_zero_in ∙ ⊎_elim no_answer (λ r. absurd (clash (member_named r) e)) (looked_up Nothing (λ t. t.answer) n ts)
        where
          count_zero_in : count (λ t. named n t && owes p t) o.tables.threads ≡ 0
          count_zero_in = omega (
            arith,
            count_less (λ t. named n t && owes p t) (named n) ts (λ t i. and_left (named n t) _ i),
            none_count (named n) ts e,
          )

          no_answer : of_thread Nothing (λ t. t.answer) n o.tables.threads ≡ Nothing →
              0 ≡ count p (as_message n (of_thread Nothing (λ t. t.answer) n o.tables.threads))
          no_answer i = sym (ap (λ (a : Answer). count p (as_message n a)) i ∙ unfold as_message in refl)

          member_named : (t : Thread) × Memᴰ t o.tables.threads × (t.name ≡ n)
              × (of_thread Nothing (λ t. t.answer) n o.tables.threads ≡ t.answer) → any (named n) o.tables.threads ≡ true
          member_named r = member_any (named n) ts r.0 r.1 (eq-eqb n r.0.name (sym r.2))

      go : (r : Runner) (q : List ℕ) → o.tables.runner ≡ r → o.tables.ready ≡ q →
          due (by_runner (run_next q o) (λ n s. o) r).tables
          + count p (as_message (me (by_runner (run_next q o) (λ n s. o) r).tables.runner)
          (by_runner (run_next q o) (λ n s. o) r).answer) ≡ due o.tables
      go (Runs n s) q e i = as_it_was
      go NoRunner [] e i = unfold run_next in as_it_was
      go NoRunner (n ∷ q) e i =
          unfold run_next change me in
          omega (
            arith,
            count_map (owes p) (turned (named n) (in_state Running Nothing)) ts,
            add_in (owes p) (λ t. owes p (turned (named n) (in_state Running Nothing) t)) (λ t. named n t && owes p t) ts (pointwise n),
            front n (any (named n) ts) refl,
          )

  -- ---- what an event does to answers that are due

  lost : Tables → List ℕ → ℕ
  lost T set = count (λ t. has t.name set && owes p t) T.threads

  none_lost : (T : Tables) → lost T [] ≡ 0
  unfolding lost any
  none_lost T = count_zero _ T.threads (λ t. refl)

  -- U is T with those due that were sent, but for q that are queued, and without those that are due to a set
  abbrev Passes : Tables → List Message → List Message → List ℕ → Tables → Type 0
  Passes T s q set U = due U + lost T set + count p q ≡ due T + count p s

  still : (T U : Tables) → due U ≡ due T → Passes T [] [] [] U
  unfolding count
  still T U e = omega (arith, none_lost T)

  ended : (n : ℕ) (T : Tables) → Calm T.threads → Passes T [] [] (ended_set T.threads n) (end n T)
  unfolding count lost
  ended n T C = omega (arith, end_due n T C)

  -- due or queued
  due_or_queued : (m : Message) (b : Bool) → count p (if b then m ∷ [] else []) + count p (if b then [] else m ∷ []) ≡ count p (m ∷ [])
  unfolding count
  due_or_queued m true = omega arith
  due_or_queued m false = omega arith

  module _ {L : Limits} (T : Tables) (R : Ruled L T) where
    calm : Calm T.threads
    calm t m e = (R.fits.threads t m).answer e

    send_passes : (s to w : ℕ) → Passes T (if decides s to T then [] else message to s w ∷ [])
        (if decides s to T then [] else unless_awaited (message to s w) T)
        (if decides s to T && not (w == 0) then ended_set T.threads to else []) (send s to w T)
    unfolding send decide count
    send_passes s to w = go (decides s to T) refl w
      where
        go : (b : Bool) → decides s to T ≡ b → (w : ℕ) →
            Passes T (if decides s to T then [] else message to s w ∷ []) (if decides s to T then [] else unless_awaited (message to s w) T)
            (if decides s to T && not (w == 0) then ended_set T.threads to else []) (send s to w T)
        go true e zero =
            rw e (still T (decide s to 0 T)
            (wake_due (waits_for_decision s to) (λ t. Nothing) _ (with_messages (keep (λ m. not (notice_of to m)) T.messages) T)
            (λ t m i. silent t (calm t m (no_decided s t (and_right (named to t) _ i)))) (λ t. unfold as_message in refl)))
        go true e (suc w) = rw (e, ne_eqb (suc w) 0 (λ i. omega arith)) (ended to T calm)
        go false e w =
            rw e (omega (
              arith,
              deliver_due (message to s w) T R.inv.agree.once calm,
              none_lost T,
              due_or_queued (message to s w)
                  (any (accepts (message to s w)) T.threads),
            ))

    -- the trapped thread stops, and its notice goes to the manager
    trap_passes : (s q : ℕ) (k : TrapKind) (c : ℕ) → T.runner ≡ Runs s q →
        Passes T (by_manager [] (λ n. notice n s c ∷ []) (entry_of k s T))
        (by_manager [] (λ n. unless_awaited (notice n s c) T) (entry_of k s T))
        (by_manager (ended_set T.threads s) (λ n. []) (entry_of k s T)) (trap s k c T)
    unfolding trap count
    trap_passes s q k c h = go (entry_of k s T) refl
      where
        halted_once : (n : ℕ) → count (named n) (stop s (Trapped k) T).threads ≤ 1
        halted_once n = unfold stop change in
            omega (
              arith,
              names_kept (turned (named s) (in_state (Trapped k) Nothing))
                  (turned_name (named s) (in_state (Trapped k) Nothing) (λ t. refl)) n T.threads,
              R.inv.agree.once n,
            )

        halted_calm : Calm (stop s (Trapped k) T).threads
        halted_calm u m e =
            unfold stop change in
            let r = mem_map (turned (named s) (in_state (Trapped k) Nothing)) T.threads m in
            ap (λ (x : Thread). x.answer) r.2 ∙ at r.0 r.1 (sym (ap (λ (x : Thread). is_ready x.state) r.2) ∙ e)
          where
            at : (t : Thread) → Memᴰ t T.threads → is_ready (turned (named s) (in_state (Trapped k) Nothing) t).state ≡ false →
                (turned (named s) (in_state (Trapped k) Nothing) t).answer ≡ Nothing
            at t i = by_if (λ (x : Thread). is_ready x.state ≡ false → x.answer ≡ Nothing) (named s t) (λ _ _. refl) (λ _. calm t i)

        go : (g : Manager) → entry_of k s T ≡ g →
            Passes T (by_manager [] (λ n. notice n s c ∷ []) g) (by_manager [] (λ n. unless_awaited (notice n s c) T) g)
            (by_manager (ended_set T.threads s) (λ n. []) g)
            (by_manager (end s T) (λ n. deliver (notice n s c) (stop s (Trapped k) T)) g)
        go Unset e = ended s T calm
        go (Set n) e =
            omega (
              arith,
              deliver_due (notice n s c) (stop s (Trapped k) T) halted_once halted_calm,
              ap (λ (b : Bool). count p (if b then notice n s c ∷ [] else [])) (awaited_as (notice n s c) s k T (not_own T R k s n e)),
              stop_due R.inv calm s q h (Trapped k),
              none_lost T,
              due_or_queued (notice n s c) (any (accepts (notice n s c)) T.threads),
            )
        go Gone e = ended s T calm

    create_due : (n : ℕ) (x : Parent) → count (owes p) (insert (λ t. ltb t.name n) (new_thread n x Ready) T.threads) ≡ due T
    create_due n x = omega (
      arith,
      count_insert (owes p) (λ t. ltb t.name n) (new_thread n x Ready) T.threads,
      ap one_if (silent (new_thread n x Ready) refl),
    )

    act_passes : (e : Event) → refusal L T e ≡ 0 → Passes T (sends T e) (queues T e) (ends T e) (act T e).tables
    unfolding act serve sends queues ends
    act_passes Malformed a = still T T refl
    act_passes (ByRunner (Send to w)) a = send_passes (me T.runner) to w
    act_passes (ByRunner (Receive w)) a =
        let C = called L T (Receive w) a in still T (receive (me T.runner) w T).tables (go C.name C.slice C.runner C.caller)
      where
        go : (s q : ℕ) → T.runner ≡ Runs s q → me T.runner ≡ s → due (receive (me T.runner) w T).tables ≡ due T
        go s q h i = unfold receive in
            (ap (λ (n : ℕ). due (received n w T (pull (wanted_by n w) T.messages)).tables) i ∙ at (pull (wanted_by s w) T.messages))
          where
            at : (x : Pulled Message) → due (received s w T x).tables ≡ due T
            at missing = unfold received in stop_due R.inv calm s q h (Receiving w)
            at (pulled m ms) = unfold received in refl
    act_passes (ByRunner CreateBrother) a = still T (act T (ByRunner CreateBrother)).tables (unfold create in create_due (next_name T) _)
    act_passes (ByRunner CreateSon) a = still T (act T (ByRunner CreateSon)).tables (unfold create in create_due (next_name T) _)
    act_passes (ByRunner (Terminate Oneself)) a = unfold terminate in ended (me T.runner) T calm
    act_passes (ByRunner (Terminate (Named n))) a = unfold terminate in ended n T calm
    act_passes (ByRunner (SetManager k n)) a = go (me T.runner) (entry_of k (me T.runner) T)
      where
        go : (s : ℕ) (g : Manager) → Passes T [] [] (if is_unset g then [] else ended_set T.threads s) (set_over g s k n T).tables
        go s Unset = unfold is_unset in
            still T (set_over Unset s k n T).tables (unfold set_over owes in
            change_due s (λ t. with_managers (set_entry k (Set n) t.managers) t) T (λ t m e. refl))
        go s (Set x) = unfold set_over is_unset in ended s T calm
        go s Gone = unfold set_over is_unset in ended s T calm
    act_passes (ByRunner GetCpuTime) a = still T T refl
    act_passes (ByRunner WaitForClock) a = let C =
        called L T WaitForClock a in still T (act T (ByRunner WaitForClock)).tables (go C.name C.slice C.runner C.caller)
      where
        go : (s q : ℕ) → T.runner ≡ Runs s q → me T.runner ≡ s → due (act T (ByRunner WaitForClock)).tables ≡ due T
        go s q h i = unfold wait_for_clock in (ap (λ (n : ℕ). due (stop n Clock T)) i ∙ stop_due R.inv calm s q h Clock)
    act_passes (ByRunner (WaitForIo d)) a = let C = called L T (WaitForIo d) a in
        still T (act T (ByRunner (WaitForIo d))).tables (go C.name C.slice C.runner C.caller (pull (held_for d) T.held))
      where
        go : (s q : ℕ) → T.runner ≡ Runs s q → me T.runner ≡ s → (x : Pulled Held) →
            due (take_held (me T.runner) d T x).tables ≡ due T
        go s q h i missing = unfold take_held in (ap (λ (n : ℕ). due (stop n (Device d) T)) i ∙ stop_due R.inv calm s q h (Device d))
        go s q h i (pulled y ys) = unfold take_held in refl
    act_passes (ByRunner (Trap k c)) a = let C = called L T (Trap k c) a in go C.name C.slice C.runner C.caller
      where
        go : (s q : ℕ) → T.runner ≡ Runs s q → me T.runner ≡ s →
            Passes T (by_manager [] (λ n. notice n (me T.runner) c ∷ []) (entry_of k (me T.runner) T))
            (by_manager [] (λ n. unless_awaited (notice n (me T.runner) c) T) (entry_of k (me T.runner) T))
            (by_manager (ended_set T.threads (me T.runner)) (λ n. []) (entry_of k (me T.runner) T)) (trap (me T.runner) k c T)
        go s q h i = rw i (trap_passes s q k c h)
    act_passes Tick a = still T (tick T) (tick_due T R.inv calm)
    act_passes (Interrupt d w) a =
        still T (interrupt d w T) (unfold interrupt in by_if (λ (U : Tables). due U ≡ due T) (any (waits_for d) T.threads)
        (λ _. wake_due (waits_for d) (λ t. Result w) _ T (λ t m e. silent t (calm t m (no_waiter d t.state e)))
        (λ t. unfold as_message in refl)) (λ _. refl))

    -- an event that is no receive hands over no message by itself
    plain : (e : Event) → is_receive (λ w. true) e ≡ false → (n : ℕ) → as_message n (act T e).answer ≡ []
    unfolding act serve as_message is_receive call_is
    plain Malformed h n = refl
    plain (ByRunner (Send to w)) h n = refl
    plain (ByRunner (Receive w)) h n = absurd (false≢true (sym h))
    plain (ByRunner CreateBrother) h n = unfold create in refl
    plain (ByRunner CreateSon) h n = unfold create in refl
    plain (ByRunner (Terminate Oneself)) h n = unfold terminate in refl
    plain (ByRunner (Terminate (Named x))) h n = unfold terminate in refl
    plain (ByRunner (SetManager k x)) h n = go (entry_of k (me T.runner) T)
      where
        go : (g : Manager) → as_message n (set_over g (me T.runner) k x T).answer ≡ []
        go Unset = unfold set_over in refl
        go (Set y) = unfold set_over in refl
        go Gone = unfold set_over in refl
    plain (ByRunner GetCpuTime) h n = refl
    plain (ByRunner WaitForClock) h n = unfold wait_for_clock in refl
    plain (ByRunner (WaitForIo d)) h n = go (pull (held_for d) T.held)
      where
        go : (x : Pulled Held) → as_message n (take_held (me T.runner) d T x).answer ≡ []
        go missing = unfold take_held in refl
        go (pulled y ys) = unfold take_held in refl
    plain (ByRunner (Trap k c)) h n = refl
    plain Tick h n = refl
    plain (Interrupt d w) h n = refl

    -- ---- the account of a step

    -- what is due after it and what it hands over, apart from inboxes
    abbrev Dues : Event → Stepped → Type 0
    Dues e s = due s.tables + count p (as_message s.decision.runner s.decision.answer) + lost T (ends T e)
        + count p (queues T e) ≡ due T + count p (sends T e) + count p (hands T e s.decision)

    -- an event that hands over no message by itself
    by_dispatching : (e : Event) → L.threads < names → refusal L T e ≡ 0 → ((n : ℕ) → as_message n (act T e).answer ≡ []) →
        count p (hands T e (settle 0 T e).decision) ≡ 0 → Dues e (settle 0 T e)
    unfolding settle
    by_dispatching e few a h none = omega (arith, act_passes e a, dispatch_due (act T e) (act_inv e few a R.inv).agree.once h)

    not_received : (e : Event) (d : Decision) → is_receive (λ w. true) e ≡ false → count p (hands T e d) ≡ 0
    unfolding hands count
    not_received e d h = rw h

    receive_dues : (w : Wanted) → L.threads < names → refusal L T (ByRunner (Receive w)) ≡ 0 →
        Dues (ByRunner (Receive w)) (settle 0 T (ByRunner (Receive w)))
    unfolding settle
    receive_dues w few a = let C =
        called L T (Receive w) a in go C.name C.slice C.runner C.caller (pull (wanted_by (me T.runner) w) T.messages) refl
      where
        event : Event
        event = ByRunner (Receive w)

        served : (x : Pulled Message) → pull (wanted_by (me T.runner) w) T.messages ≡ x →
            act T (ByRunner (Receive w)) ≡ received (me T.runner) w T x
        served x j = unfold act serve receive in ap (received (me T.runner) w T) j

        go : (s q : ℕ) → T.runner ≡ Runs s q → me T.runner ≡ s → (x : Pulled Message) →
            pull (wanted_by (me T.runner) w) T.messages ≡ x → Dues (ByRunner (Receive w)) (settle 0 T (ByRunner (Receive w)))
        go s q h i missing j = by_dispatching event few a (λ n. ap (λ (o : Outcome). as_message n o.answer) (served missing j)
            ∙ unfold received as_message in refl) none
          where
            kept : (settle 0 T (ByRunner (Receive w))).tables.messages ≡ T.messages
            kept = unfold settle in
                (dispatch_messages (act T event) ∙ ap (λ (o : Outcome). o.tables.messages) (served missing j)
                ∙ unfold received stop change in refl)

            none : count p (hands T (ByRunner (Receive w)) (settle 0 T (ByRunner (Receive w))).decision) ≡ 0
            none = omega (arith, accepted p L T R event a, ap (count p) kept, nothing_queued)
              where
                nothing_queued : count p (queues T (ByRunner (Receive w))) ≡ 0
                nothing_queued = unfold queues count in refl
        go s q h i (pulled m ms) j = subst (λ (o : Outcome). Dues (ByRunner (Receive w)) (decided 0 o)) (sym went_on) on
          where
            went_on : dispatch (act T (ByRunner (Receive w))) ≡ received (me T.runner) w T (pulled m ms)
            went_on = runs_on (act T event) s q (ap (λ (o : Outcome). o.tables.runner) (served (pulled m ms) j) ∙ unfold received in
                h) ∙ served (pulled m ms) j

            on : Dues (ByRunner (Receive w)) (decided 0 (received (me T.runner) w T (pulled m ms)))
            on = unfold received hands is_receive call_is ends queues sends count in
                rw (eq-eqb (me T.runner) (me T.runner) refl) (omega (arith, none_lost T))

    no_receive : (e : Event) → L.threads < names → refusal L T e ≡ 0 → is_receive (λ w. true) e ≡ false → Dues e (settle 0 T e)
    no_receive e few a h = by_dispatching e few a (plain e h) (not_received e (settle 0 T e).decision h)

    accepted_dues : (e : Event) → L.threads < names → refusal L T e ≡ 0 → Dues e (settle 0 T e)
    unfolding is_receive call_is
    accepted_dues Malformed few a = no_receive Malformed few a refl
    accepted_dues (ByRunner (Send to w)) few a = no_receive (ByRunner (Send to w)) few a refl
    accepted_dues (ByRunner (Receive w)) few a = receive_dues w few a
    accepted_dues (ByRunner CreateBrother) few a = no_receive (ByRunner CreateBrother) few a refl
    accepted_dues (ByRunner CreateSon) few a = no_receive (ByRunner CreateSon) few a refl
    accepted_dues (ByRunner (Terminate n)) few a = no_receive (ByRunner (Terminate n)) few a refl
    accepted_dues (ByRunner (SetManager k n)) few a = no_receive (ByRunner (SetManager k n)) few a refl
    accepted_dues (ByRunner GetCpuTime) few a = no_receive (ByRunner GetCpuTime) few a refl
    accepted_dues (ByRunner WaitForClock) few a = no_receive (ByRunner WaitForClock) few a refl
    accepted_dues (ByRunner (WaitForIo d)) few a = no_receive (ByRunner (WaitForIo d)) few a refl
    accepted_dues (ByRunner (Trap k c)) few a = no_receive (ByRunner (Trap k c)) few a refl
    accepted_dues Tick few a = no_receive Tick few a refl
    accepted_dues (Interrupt d w) few a = no_receive (Interrupt d w) few a refl

  step_account : (L : Limits) → L.threads < names → (T : Tables) → Ruled L T → (bytes : List ℕ) →
      open_of p (step L T bytes).tables + count p (as_message (step L T bytes).decision.runner (step L T bytes).decision.answer)
      + if_accepted (dropped_by p) L T bytes
      ≡ open_of p T + if_accepted (λ U e. count p (sends U e)) L T bytes
  unfolding step
  step_account L few T R bytes = go (refusal L T (decode bytes)) refl
    where
      e : Event
      e = decode bytes

      go : (r : ℕ) → refusal L T (decode bytes) ≡ r →
          open_of p (settle r T (decode bytes)).tables
          + count p (as_message (settle r T (decode bytes)).decision.runner (settle r T (decode bytes)).decision.answer)
          + (if r == 0 then dropped_by p T (decode bytes) else 0)
          ≡ open_of p T + (if r == 0 then count p (sends T (decode bytes)) else 0)
      go zero a = unfold lost in omega (arith, accepted p L T R e a, accepted_dues T R e few a)
      go (suc r) a = rw (ne_eqb (suc r) 0 (λ i. omega arith)) (unfold settle as_message count in omega arith)

  run_account : (L : Limits) → L.threads < names → (T : Tables) → Ruled L T → (es : Input) →
      open_of p T + sent_of p L T es ≡ delivered_of p L T es + dropped_of p L T es + open_of p (run L T es)
  unfolding run over_run delivered_of
  run_account L few T R [] = omega arith
  run_account L few T R (e ∷ es) = omega (arith, step_account L few T R e, run_account L few (step L T e).tables (step_ruled e few R) es)

-- ---- the laws

-- From a start, over any run, for every test on messages: what was sent has been handed over by a decision, has been discarded or was due
-- to a thread that ended, waits in an inbox, or is due to a thread. So each is handed over once at most, and never if it is dropped.
pub sent_is_handed_once : (p : Message → Bool) (L : Limits) → 1 ≤ L.threads → L.threads < names → (es : Input) →
    sent_of p L start es ≡ delivered_of p L start es + dropped_of p L start es + open_of p (run L start es)
unfolding count owes as_message any
sent_is_handed_once p L some few es = omega (arith, run_account p L few start (start_ruled L some) es)

-- The same from any tables that meet the rules: what is in inboxes or due there counts as sent.
pub open_is_handed_once : (p : Message → Bool) (L : Limits) → L.threads < names → (T : Tables) → table_rules L T ≡ true → (es : Input) →
    open_of p T + sent_of p L T es ≡ delivered_of p L T es + dropped_of p L T es + open_of p (run L T es)
open_is_handed_once p L few T h es = run_account p L few T (tested_ruled L T h) es
