-- Due answers: a thread that is ready with an answer keeps just that answer until it is run or ends. When it is run it is handed
-- that answer, once: after that it has none.
use Rattle.std.proofs.Common.{if◌then◌else◌, ◌==◌}
use Prim.Native.Nat.{ℕ, zero, suc, ◌+◌, ◌-◌, ◌≤◌, ◌<◌}
use mathlib.Core.Path.{◌≡◌, refl, sym, ap, ◌∙◌, subst}
use mathlib.Core.Logic.{◌⊎◌, inl, inr, ⊎_elim, ◌≢◌}
use mathlib.Core.Bool.{Bool, true, false}
use mathlib.Core.List.{List, [], ◌∷◌, map, Memᴰ}
use native.Mathlib.Omega.{arith}
use borrow.Author.Tests.{ne_eqb, eq-eqb}
use Rattle.rules.specs.Lists.{one_if, any, has, count, insert, Pulled, missing, pulled, pull}
use Rattle.rules.specs.Numbers.{names, full_slice, beat_ticks}
use Rattle.laws.specs.Words.{Limits}
use Rattle.rules.specs.Words.{by_manager, by_runner}
use Rattle.rules.specs.Tables.{Tables, with_time, with_clock, with_messages, in_state, with_ticks, with_managers, named, live, of_thread}
use Rattle.rules.specs.Tables.{change, manager, set_entry, runs_as, me}
use Rattle.rules.specs.States.{is_running, on_clock, receives, at_device, waits_for, trapped_on}
use Rattle.rules.specs.Waking.{Outcome, wake_those, handed, accepts, queue, deliver, stop}
use Rattle.rules.specs.Ending.{ended_set, end}
use Rattle.rules.specs.Send.{message, waits_for_decision, decides, decide, send}
use Rattle.rules.specs.Receive.{wanted_by, received, receive}
use Rattle.rules.specs.Trap.{notice, trap}
use Rattle.rules.specs.Tick.{one_more, charge, beat, rotate, tick}
use Rattle.rules.specs.Interrupt.{held_for, interrupt}
use Rattle.rules.specs.Requests.{create, terminate, set_over, wait_for_clock, take_held}
use Rattle.rules.specs.Dispatch.{run_next, dispatch}
use Rattle.rules.specs.Events.{decode}
use Rattle.rules.specs.Refusals.{refusal}
use Rattle.rules.specs.Step.{serve, act, Stepped, settle, step}
use Rattle.rules.specs.Runs.{Input}
use Rattle.rules.specs.TableRules.{table_rules}
use Rattle.laws.specs.Words.{State, Running, Ready, Receiving, Clock, Device, Trapped, Answer, Nothing, Result, Manager, Unset, Set}
use Rattle.laws.specs.Words.{Gone, Parent, Thread, Message, Held, Runner, NoRunner, Runs, Oneself, Named, Call, Send, Receive}
use Rattle.laws.specs.Words.{CreateBrother, CreateSon, Terminate, SetManager, GetCpuTime, WaitForClock, WaitForIo, Trap, Event}
use Rattle.laws.specs.Words.{Malformed, ByRunner, Tick, Interrupt}
use Rattle.laws.specs.Due.{ThereIs, Becomes, it_waits, it_runs, it_ended, Until, so_far, longer, is_run, ends}
use Rattle.laws.specs.Types.{Inv, Ruled}
use Rattle.laws.proofs.Tests.{by_if, by_runs, same?, and_false, clash}
use Rattle.laws.proofs.Tally.{none_any}
use Rattle.laws.proofs.Members.{map_mem}
use Rattle.laws.proofs.Threads.{member_live, of_only, turned_live, here_only}
use Rattle.laws.proofs.Steps.{called}
use Rattle.laws.proofs.Places.{runs_self}
use Rattle.laws.proofs.PlacesKept.{runner_live, act_inv}
use Rattle.laws.proofs.Sound.{tested_ruled}
use Rattle.laws.proofs.Kept.{step_ruled}
use Rattle.laws.proofs.Ending.{survivors, ending_forgets}

-- ---- no event touches a ready thread

insert_mem : {A : Type 0} (p : A → Bool) (a : A) (xs : List A) {x : A} → Memᴰ x xs → Memᴰ x (insert p a xs)
unfolding insert
insert_mem {A = A} p a [] {x = x} x3 = elim x3 [ ]
insert_mem {A} p a (y ∷ xs) {x} (Memᴰ.head e) =
    by_if (λ (l : List A). Memᴰ x l) (p y) (λ _. Memᴰ.head e) (λ _. Memᴰ.tail (Memᴰ.head e))
insert_mem {A} p a (y ∷ xs) {x} (Memᴰ.tail m) =
    by_if (λ (l : List A). Memᴰ x l) (p y) (λ _. Memᴰ.tail (insert_mem p a xs m)) (λ _. Memᴰ.tail (Memᴰ.tail m))

-- the runner, if there is one, is another
abbrev Apart : ℕ → Tables → Type 0
Apart n T = (m s : ℕ) → T.runner ≡ Runs m s → m ≢ n

ready_apart : {L : Limits} {T : Tables} {n : ℕ} {a : Answer} → Inv L T → ThereIs T.threads n Ready a → Apart n T
unfolding is_running
ready_apart {L} {T} {n} I S m s e i =
    let one : one_if (runs_as m T.runner) ≡ 1 = ap (λ (r : Runner). one_if (runs_as m r)) e ∙ ap one_if (runs_self m s) in
    clash (here_only is_running T.threads I.agree.once S.thread S.there
    (rw (S.name ∙ sym i) (omega (arith, I.agree.run m)))) (ap is_running S.state)

module _ (n : ℕ) (a : Answer) where
  -- a thread that is ready with the answer stands there still, or no thread of its name does
  abbrev Lasts : List Thread → Type 0
  Lasts ts = ThereIs ts n Ready a ⊎ (any (named n) ts ≡ false)

  still_some : (p : Thread → Bool) (f : Thread → Thread) {ts : List Thread} →
      ((t : Thread) → t.name ≡ n → t.state ≡ Ready → p t ≡ false) → ThereIs ts n Ready a →
      ThereIs (map (λ t. if p t then f t else t) ts) n Ready a
  still_some p f {ts} h S = record {
    thread = S.thread;
    there = subst (λ (x : Thread). Memᴰ x (map (λ t. if p t then f t else t) ts)) (rw (h S.thread S.name S.state))
        (map_mem (λ t. if p t then f t else t) ts S.there);
    name = S.name;
    state = S.state;
    answer = S.answer;
  }

  other : (m : ℕ) → m ≢ n → (t : Thread) → t.name ≡ n → named m t ≡ false
  other m d t e = ne_eqb m t.name (λ i. d (i ∙ e))

  still_wake : (p : Thread → Bool) (b : Thread → Answer) (ns : List ℕ) (T : Tables) →
      ((t : Thread) → t.name ≡ n → t.state ≡ Ready → p t ≡ false) → ThereIs T.threads n Ready a →
      ThereIs (wake_those p b ns T).threads n Ready a
  unfolding wake_those
  still_wake p b ns T h S = still_some p (λ t. in_state Ready (b t) t) h S

  still_change : (m : ℕ) → m ≢ n → (f : Thread → Thread) (T : Tables) → ThereIs T.threads n Ready a →
      ThereIs (change m f T).threads n Ready a
  unfolding change
  still_change m d f T S = still_some (named m) f (λ t e _. other m d t e) S

  still_stop : (m : ℕ) → m ≢ n → (s : State) (T : Tables) → ThereIs T.threads n Ready a → ThereIs (stop m s T).threads n Ready a
  unfolding stop
  still_stop m d s T S = still_change m d (in_state s Nothing) T S

  still_deliver : (m : Message) (T : Tables) → ThereIs T.threads n Ready a → ThereIs (deliver m T).threads n Ready a
  unfolding deliver queue receives
  still_deliver m T S =
      by_if (λ (U : Tables). ThereIs U.threads n Ready a) (any (accepts m) T.threads)
      (λ _. still_wake (accepts m) (λ t. handed m) _ T (λ t e r. rw r (and_false (named m.to t))) S)
      (λ _. S)

  lasts_end : (x : ℕ) (T : Tables) → ThereIs T.threads n Ready a → Lasts (end x T).threads
  lasts_end x T S = go (has S.thread.name (ended_set T.threads x)) refl
    where
      go : (b : Bool) → has S.thread.name (ended_set T.threads x) ≡ b → Lasts (end x T).threads
      go true h = inr (none_any (named n) (end x T).threads
          (λ u m. ne_eqb n u.name (λ i. clash (ap (λ (y : ℕ). has y (ended_set T.threads x)) (sym i ∙ sym S.name) ∙ h)
          ((ending_forgets x T).threads u m))))
      go false h =
          let r = survivors x T S.thread S.there h in
          let k = r.2.same (λ m i. absurd (let j = S.state in let z : ◌≡◌ {A = ℕ} 0 1 = cc in omega arith)) in
          inl (record { thread = r.0; there = r.1; name = r.2.name ∙ S.name; state = k.0 ∙ S.state; answer = k.1 ∙ S.answer })

  still_charge : (T : Tables) → Apart n T → ThereIs T.threads n Ready a → ThereIs (charge T).threads n Ready a
  unfolding charge
  still_charge T A S = by_runs (λ (U : Tables). ThereIs U.threads n Ready a) T.runner (λ _. S)
      (λ m s e. still_change m (A m s e) (λ t. with_ticks (one_more t.ticks) t) T S)

  apart_charge : (T : Tables) → Apart n T → Apart n (charge T)
  unfolding charge change
  apart_charge T A = by_runs (Apart n) T.runner (λ _. A) (λ m s e. one m s e)
    where
      one : (m s : ℕ) → T.runner ≡ Runs m s → (x y : ℕ) → Runs m (s - 1) ≡ Runs x y → x ≢ n
      one m s e x y i = let k : m ≡ x = cc in rw (sym k) (A m s e)

  still_beat : (T : Tables) → ThereIs T.threads n Ready a → ThereIs (beat T).threads n Ready a
  unfolding beat on_clock
  still_beat T S =
      by_if (λ (U : Tables). ThereIs U.threads n Ready a) (T.since + 1 == beat_ticks)
      (λ _. still_wake (λ t. on_clock t.state) (λ t. Result (one_more T.beats)) T.clock
      (with_clock [] (with_time 0 (one_more T.beats) T)) (λ t e r. ap on_clock r) S)
      (λ _. S)

  apart_beat : (T : Tables) → Apart n T → Apart n (beat T)
  unfolding beat wake_those
  apart_beat T A = by_if (Apart n) (T.since + 1 == beat_ticks) (λ _. A) (λ _. A)

  still_rotate : (T : Tables) → Apart n T → ThereIs T.threads n Ready a → ThereIs (rotate T).threads n Ready a
  unfolding rotate
  still_rotate T A S =
      by_runs (λ (U : Tables). ThereIs U.threads n Ready a) T.runner (λ _. S)
      (λ m s e. by_if (λ (U : Tables). ThereIs U.threads n Ready a) (s == 0)
      (λ _. still_wake (named m) (λ t. Nothing) (m ∷ []) T (λ t i _. other m (A m s e) t i) S) (λ _. S))

  still_tick : (T : Tables) → Apart n T → ThereIs T.threads n Ready a → ThereIs (tick T).threads n Ready a
  unfolding tick
  still_tick T A S = still_rotate (beat (charge T)) (apart_beat (charge T) (apart_charge T A)) (still_beat (charge T) (still_charge T A S))

  still_interrupt : (d w : ℕ) (T : Tables) → ThereIs T.threads n Ready a → ThereIs (interrupt d w T).threads n Ready a
  unfolding interrupt at_device
  still_interrupt d w T S =
      by_if (λ (U : Tables). ThereIs U.threads n Ready a) (any (waits_for d) T.threads)
      (λ _. still_wake (waits_for d) (λ t. Result w) _ T (λ t e r. ap (at_device d) r) S)
      (λ _. S)

  still_create : (p : Parent) (T : Tables) → ThereIs T.threads n Ready a → ThereIs (create p T).tables.threads n Ready a
  unfolding create
  still_create p T S =
      record { thread = S.thread; there = insert_mem _ _ T.threads S.there; name = S.name; state = S.state; answer = S.answer }

  lasts_send : (s to w : ℕ) (T : Tables) → ThereIs T.threads n Ready a → Lasts (send s to w T).threads
  unfolding send trapped_on
  lasts_send s to w T S =
      by_if (λ (U : Tables). Lasts U.threads) (decides s to T) (λ _. go w) (λ _. inl (still_deliver (message to s w) T S))
    where
      go : (w : ℕ) → Lasts (decide s to w T).threads
      go zero = unfold decide in
          inl (still_wake (waits_for_decision s to) (λ t. Nothing) _ (with_messages _ T) (λ t e r. rw r (and_false (named to t))) S)
      go (suc w) = unfold decide in lasts_end to T S

  lasts_serve : (s : ℕ) → s ≢ n → (T : Tables) (c : Call) → ThereIs T.threads n Ready a → Lasts (serve s T c).tables.threads
  unfolding serve receive wait_for_clock terminate
  lasts_serve s d T (Send to w) S = lasts_send s to w T S
  lasts_serve s d T (Receive w) S = go (pull (wanted_by s w) T.messages)
    where
      go : (r : Pulled Message) → Lasts (received s w T r).tables.threads
      go missing = unfold received in inl (still_stop s d (Receiving w) T S)
      go (pulled m ms) = unfold received in inl S
  lasts_serve s d T CreateBrother S = inl (still_create _ T S)
  lasts_serve s d T CreateSon S = inl (still_create _ T S)
  lasts_serve s d T (Terminate Oneself) S = lasts_end s T S
  lasts_serve s d T (Terminate (Named x)) S = lasts_end x T S
  lasts_serve s d T (SetManager k x) S = go (of_thread Unset (λ t. manager k t.managers) s T.threads)
    where
      go : (m : Manager) → Lasts (set_over m s k x T).tables.threads
      go Unset = unfold set_over in inl (still_change s d (λ t. with_managers (set_entry k (Set x) t.managers) t) T S)
      go (Set m) = unfold set_over in lasts_end s T S
      go Gone = unfold set_over in lasts_end s T S
  lasts_serve s d T GetCpuTime S = inl S
  lasts_serve s d T WaitForClock S = inl (still_stop s d Clock T S)
  lasts_serve s d T (WaitForIo v) S = go (pull (held_for v) T.held)
    where
      go : (r : Pulled Held) → Lasts (take_held s v T r).tables.threads
      go missing = unfold take_held in inl (still_stop s d (Device v) T S)
      go (pulled h hs) = unfold take_held in inl S
  lasts_serve s d T (Trap k c) S = unfold trap in go (of_thread Unset (λ t. manager k t.managers) s T.threads)
    where
      go : (m : Manager) → Lasts (by_manager (end s T) (λ x. deliver (notice x s c) (stop s (Trapped k) T)) m).threads
      go Unset = lasts_end s T S
      go (Set x) = inl (still_deliver (notice x s c) (stop s (Trapped k) T) (still_stop s d (Trapped k) T S))
      go Gone = lasts_end s T S

  lasts_act : (L : Limits) (T : Tables) (e : Event) → refusal L T e ≡ 0 → Apart n T → ThereIs T.threads n Ready a →
      Lasts (act T e).tables.threads
  unfolding act
  lasts_act L T Malformed r A S = inl S
  lasts_act L T (ByRunner c) r A S = let C = called L T c r in
      subst (λ (s : ℕ). Lasts (serve s T c).tables.threads) (sym C.caller)
      (lasts_serve C.name (A C.name C.slice C.runner) T c S)
  lasts_act L T Tick r A S = inl (still_tick T A S)
  lasts_act L T (Interrupt d w) r A S = inl (still_interrupt d w T S)

  -- ---- dispatch

  -- what dispatch leaves: it lasts, or is handed over
  data Left (x : Outcome) : Type 0 where
    lasting : Lasts x.tables.threads → Left x
    running : (s : ℕ) → x.tables.runner ≡ Runs n s → x.answer ≡ a → ThereIs x.tables.threads n Running Nothing → Left x

  dispatched : (o : Outcome) → ((m : ℕ) → count (named m) o.tables.threads ≤ 1) → Lasts o.tables.threads → Left (dispatch o)
  unfolding dispatch
  dispatched o once H = go o.tables.runner o.tables.ready
    where
      ts : List Thread
      ts = o.tables.threads

      run : Thread → Thread
      run = in_state Running Nothing

      gone : (m : ℕ) → any (named n) ts ≡ false → any (named n) (map (λ t. if named m t then run t else t) ts) ≡ false
      gone m d = turned_live (named m) run (λ t. refl) n ts ∙ d

      go : (r : Runner) (q : List ℕ) → Left (by_runner (run_next q o) (λ m s. o) r)
      go (Runs m s) q = lasting H
      go NoRunner [] = unfold run_next in lasting H
      go NoRunner (m ∷ q) =
          unfold run_next change in
          ⊎_elim
          (λ e.
          ⊎_elim
          (λ S.
          running full_slice (ap (λ (x : ℕ). Runs x full_slice) e.0)
          (of_only Nothing (λ t. t.answer) m ts (once m) S.thread S.there (S.name ∙ sym e.0) ∙ S.answer)
          (record {
            thread = run S.thread;
            there = subst (λ (x : Thread). Memᴰ x (map (λ t. if named m t then run t else t) ts))
                (rw (eq-eqb m S.thread.name (e.0 ∙ sym S.name))) (map_mem (λ t. if named m t then run t else t) ts S.there);
            name = S.name;
            state = refl;
            answer = refl;
          }))
          (λ d. lasting (inr (gone m d)))
          H)
          (λ e. ⊎_elim (λ S. lasting (inl (still_some (named m) run (λ t i _. other m e.0 t i) S))) (λ d. lasting (inr (gone m d))) H)
          (same? m n)

-- ---- the step

-- a runner that is handed nothing new is another: it is not this ready thread, and not an ended one
not_run : {L : Limits} (U : Tables) (n : ℕ) (a : Answer) → Inv L U → n < names → Lasts n a U.threads → me U.runner ≢ n
unfolding me
not_run U n a I low H = go U.runner refl
  where
    go : (r : Runner) → U.runner ≡ r → me r ≢ n
    go NoRunner e i = omega arith
    go (Runs m s) e i = ⊎_elim (λ S. ready_apart I S m s e i) (λ d. clash (runner_live I m s e) (ap (λ (x : ℕ). live x U) i ∙ d)) H

becomes : (L : Limits) (T : Tables) (bytes : List ℕ) (n : ℕ) (a : Answer) → L.threads < names → Ruled L T →
    ThereIs T.threads n Ready a → Becomes L T bytes n a
unfolding step
becomes L T bytes n a few R S = go (refusal L T (decode bytes)) refl
  where
    low : n < names
    low = R.inv.low n (subst (λ (x : ℕ). live x T ≡ true) S.name (member_live T.threads S.thread S.there))

    after : Stepped → Type 0
    after s = (ThereIs s.tables.threads n Ready a × (s.decision.runner ≢ n))
        ⊎ (((s.decision.runner ≡ n) × (s.decision.answer ≡ a) × ThereIs s.tables.threads n Running Nothing)
        ⊎ ((live n s.tables ≡ false) × (s.decision.runner ≢ n)))

    left : (r : ℕ) → refusal L T (decode bytes) ≡ r → Inv L (settle r T (decode bytes)).tables → after (settle r T (decode bytes))
    left zero e I = unfold settle me in
        elim (dispatched n a (act T (decode bytes)) (act_inv (decode bytes) few e R.inv).agree.once
        (lasts_act n a L T (decode bytes) e (ready_apart R.inv S) S)) [
          | lasting H ↦ ⊎_elim (λ X. inl (X, not_run _ n a I low (inl X))) (λ d. inr (inr (d, not_run _ n a I low (inr d)))) H
          | running s x y z ↦ inr (inl (ap me x, y, z))
        ]
    left (suc r) e I = unfold settle in inl (S, not_run T n a R.inv low (inl S))

    go : (r : ℕ) → refusal L T (decode bytes) ≡ r → Becomes L T bytes n a
    go r e = ⊎_elim (λ x. it_waits x.0 x.1) (λ y. ⊎_elim (λ x. it_runs x.0 x.1 x.2) (λ x. it_ended x.0 x.1) y)
        (subst after (sym (ap (λ (x : ℕ). settle x T (decode bytes)) e))
        (left r e (subst (λ (x : ℕ). Inv L (settle x T (decode bytes)).tables) e (step_ruled bytes few R).inv)))

-- ---- the laws

-- From tables that meet the rules: a thread that is ready with an answer is, after any event, still ready with it and not running;
-- or it runs and is handed this answer, and has no answer any more; or it has ended.
pub answer_is_due : (L : Limits) (T : Tables) (bytes : List ℕ) (n : ℕ) (a : Answer) → L.threads < names → table_rules L T ≡ true →
    ThereIs T.threads n Ready a → Becomes L T bytes n a
answer_is_due L T bytes n a few h S = becomes L T bytes n a few (tested_ruled L T h) S

-- So along any run: it keeps the answer until it is next run, and then is handed it, unless it ends first.
pub due_until_run : (L : Limits) (T : Tables) (es : Input) (n : ℕ) (a : Answer) → L.threads < names → table_rules L T ≡ true →
    ThereIs T.threads n Ready a → Until L n a T es
due_until_run L T es n a few h S = go T es (tested_ruled L T h) S
  where
    go : (U : Tables) (fs : Input) → Ruled L U → ThereIs U.threads n Ready a → Until L n a U fs
    go U [] R X = so_far U X
    go U (f ∷ fs) R X = elim (becomes L U f n a few R X) [
      | it_waits Y d ↦ longer U f fs X d (go (step L U f).tables fs (step_ruled f few R) Y)
      | it_runs r i Y ↦ is_run U f fs X r i Y
      | it_ended d r ↦ ends U f fs X d r
    ]
