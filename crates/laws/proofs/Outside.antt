-- Ticks and interrupts, were they accepted whatever the status: when they leave the threads as they are, and which series of them wakes
-- one.
use Rattle.std.proofs.Common.{if◌then◌else◌, ◌==◌}
use Prim.Native.Nat.{ℕ, zero, suc, ◌+◌, ◌-◌, ◌/◌, ◌^◌, ◌≤◌, ◌<◌}
use mathlib.Core.Path.{◌≡◌, refl, sym, ap, ap₂, ◌∙◌}
use mathlib.Core.Logic.{◌≢◌}
use mathlib.Core.Bool.{Bool, true, false, ◌&&◌, ◌||◌, true≢false, false≢true}
use mathlib.Core.List.{List, [], ◌∷◌, ◌++◌, map, Memᴰ}
use native.Mathlib.Omega.{arith}
use lib.Dec.{ltb}
use lib.ListN.{replicate}
use lib.Pow.{pow_mono}
use borrow.Author.Tests.{eqb-true, eq-eqb, ne_eqb, ltb-true, lt-ltb}
use Rattle.rules.specs.Lists.{all, any, keep, from_on, is_byte, number_from, four_bytes}
use Rattle.rules.specs.Numbers.{beat_ticks, devices, wrap}
use Rattle.laws.specs.Words.{Limits}
use Rattle.rules.specs.Words.{by_state}
use Rattle.rules.specs.Tables.{Tables, with_time, with_clock, in_state, named, live, change}
use Rattle.rules.specs.States.{is_running, is_ready, on_clock, at_device, waits_for, wakes_from_outside}
use Rattle.rules.specs.Waking.{Outcome, ◌handing◌, wake_those, wake_by_name}
use Rattle.rules.specs.Tick.{one_more, charge, beat, rotate, tick}
use Rattle.rules.specs.Interrupt.{interrupt}
use Rattle.rules.specs.Dispatch.{run_next, dispatch, status}
use Rattle.rules.specs.Pick.{first_pending, pick}
use Rattle.rules.specs.Tags.{facts_in, tag_facts}
use Rattle.rules.specs.Events.{interrupt_of, meaning, field_of, decode}
use Rattle.rules.specs.Refusals.{first_of, over, is_malformed, needs_runner, own_rules, refusal}
use Rattle.rules.specs.Step.{act, settle, step}
use Rattle.rules.specs.Runs.{run}
use Rattle.laws.specs.Words.{State, Running, Ready, Receiving, Clock, Device, Trapped, Answer, Nothing, Result, Thread, NoRunner}
use Rattle.laws.specs.Words.{Event, Malformed, ByRunner, Tick, Interrupt}
use Rattle.laws.specs.Outside.{from_outside, were_accepted, outside, some_ready, woken_by, first_woken, waking_series, bytes_of}
use Rattle.laws.specs.Decoded.{Proper}
use Rattle.laws.proofs.Tests.{by_if, and_left, and_right, ◌&◌}
use Rattle.laws.proofs.Tally.{any_member, member_any, not_any, none_any, all_at, all_both, map_same}
use Rattle.laws.proofs.Members.{mem_keep, keep_mem, mem_map, map_mem, from_on_mem}
use Rattle.laws.proofs.Bytes.{four_are_bytes, four_back, four_number}
use Rattle.laws.proofs.Threads.{names_mapped, put_name}
use Rattle.laws.proofs.Decoded.{decode_proper}
use Rattle.laws.proofs.Calm.{beat_runner}

-- ---- what the laws speak of

-- "some thread waits for clock or device"
abbrev pub some_waits : List Thread → Bool
some_waits ts = any (λ t. wakes_from_outside t.state) ts

-- ---- when nobody runs

rest_charge : (T : Tables) → T.runner ≡ NoRunner → charge T ≡ T
unfolding charge
rest_charge T r = rw r

rest_rotate : (T : Tables) → T.runner ≡ NoRunner → rotate T ≡ T
unfolding rotate
rest_rotate T r = rw r

-- a tick is the beat alone
pub rest_tick : (T : Tables) → T.runner ≡ NoRunner → tick T ≡ beat T
unfolding tick
rest_tick T r = ap (λ (U : Tables). rotate (beat U)) (rest_charge T r) ∙ rest_rotate (beat T) (beat_runner T ∙ r)

-- with nobody ready the dispatch does nothing
pub rest_dispatch : (o : Outcome) → o.tables.runner ≡ NoRunner → o.tables.ready ≡ [] → dispatch o ≡ o
unfolding dispatch run_next
rest_dispatch o r q = rw (r, q)

-- ---- with nobody on clock or device, ticks and interrupts leave the threads as they are

-- the threads are ts; nobody runs, is ready, or is in the clock queue
pub record Still (ts : List Thread) (T : Tables) : Type 0 where
  pub runner : T.runner ≡ NoRunner
  pub ready : T.ready ≡ []
  pub clock : T.clock ≡ []
  pub threads : T.threads ≡ ts

pub clock_wakes : (s : State) → wakes_from_outside s ≡ false → on_clock s ≡ false
unfolding wakes_from_outside
clock_wakes s e = go (on_clock s) e
  where
    go : (b : Bool) → (b || by_state false (λ w. false) (λ d. true) (λ k. false) s) ≡ false → b ≡ false
    go true i = i
    go false i = refl

device_wakes : (d : ℕ) (s : State) → wakes_from_outside s ≡ false → at_device d s ≡ false
unfolding wakes_from_outside on_clock at_device
device_wakes d Running e = refl
device_wakes d Ready e = refl
device_wakes d (Receiving w) e = refl
device_wakes d Clock e = refl
device_wakes d (Device x) e = absurd (true≢false e)
device_wakes d (Trapped k) e = refl

module _ (ts : List Thread) (none : some_waits ts ≡ false) where
  beat_still : (T : Tables) → Still ts T → Still ts (beat T)
  unfolding beat wake_those
  beat_still T S =
      by_if (Still ts) (T.since + 1 == beat_ticks)
      (λ e.
      record {
        runner = S.runner;
        ready = ap₂ (λ (a b : List ℕ). a ++ b) S.ready S.clock;
        clock = refl;
        threads = map_same _ T.threads
            (λ t m. rw (clock_wakes t.state (not_any (λ u. wakes_from_outside u.state) ts t none (rw S.threads at m))))
            ∙ S.threads;
      })
      (λ e. record { runner = S.runner; ready = S.ready; clock = S.clock; threads = S.threads })

  interrupt_still : (d w : ℕ) (T : Tables) → Still ts T → Still ts (interrupt d w T)
  unfolding interrupt
  interrupt_still d w T S =
      let z : any (waits_for d) T.threads ≡ false = rw S.threads
      (none_any (waits_for d) ts (λ t m. device_wakes d t.state (not_any (λ u. wakes_from_outside u.state) ts t none m))) in
      rw z (record { runner = S.runner; ready = S.ready; clock = S.clock; threads = S.threads })

  dispatch_still : (T : Tables) (a : Answer) → Still ts T → Still ts (dispatch (T handing a)).tables
  dispatch_still T a S = rw (rest_dispatch (T handing a) S.runner S.ready) S

  accepted_still : (T : Tables) (e : Event) → from_outside e ≡ true → Still ts T → Still ts (were_accepted T e)
  unfolding from_outside were_accepted act
  accepted_still T Malformed h S = absurd (false≢true h)
  accepted_still T (ByRunner c) h S = absurd (false≢true h)
  accepted_still T Tick h S = dispatch_still (tick T) Nothing (rw (rest_tick T S.runner) (beat_still T S))
  accepted_still T (Interrupt d w) h S = dispatch_still (interrupt d w T) Nothing (interrupt_still d w T S)

  pub outside_still : (T : Tables) (es : List Event) → all from_outside es ≡ true → Still ts T → Still ts (outside T es)
  unfolding outside all
  outside_still T [] h S = S
  outside_still T (e ∷ es) h S =
      outside_still (were_accepted T e) es (and_right (from_outside e) _ h) (accepted_still T e (and_left (from_outside e) _ h) S)

-- ---- when nobody runs or is ready, whoever is woken makes somebody run

-- the front of the ready queue is a thread's name: it runs
front_runs : (n : ℕ) (ns : List ℕ) (o : Outcome) → live n o.tables ≡ true → some_ready (run_next (n ∷ ns) o).tables ≡ true
unfolding run_next change some_ready
front_runs n ns o h =
    let m = any_member (named n) o.tables.threads h in
    member_any (λ t. is_ready t.state || is_running t.state) _ _
    (map_mem (λ t. if named n t then in_state Running Nothing t else t) _ m.1) (rw m.2 (unfold is_ready is_running in refl))

-- names of threads join an empty ready queue, at least one: somebody runs
pub woken_runs : (p : Thread → Bool) (a : Thread → Answer) (ns : List ℕ) (T : Tables) → T.runner ≡ NoRunner → T.ready ≡ []
    → ((n : ℕ) → Memᴰ n ns → live n T ≡ true) → (k : ℕ) → Memᴰ k ns →
    some_ready (dispatch (wake_those p a ns T handing Nothing)).tables ≡ true
unfolding dispatch wake_those
woken_runs p a [] T r q l k m = elim m [ ]
woken_runs p a (n ∷ ns) T r q l k m =
    rw (r, q) (front_runs n ns _ (names_mapped _ (put_name p Ready a) n T.threads ∙ l n (Memᴰ.head refl)))

-- ---- which series wakes somebody

-- nobody runs or is ready; the names in the clock queue are those of the threads that wait for the clock; devices are in their range
pub record Resting (T : Tables) : Type 0 where
  pub runner : T.runner ≡ NoRunner
  pub ready : T.ready ≡ []
  pub since : T.since < beat_ticks
  pub queued : (n : ℕ) → Memᴰ n T.clock → live n T ≡ true
  pub waits : (t : Thread) → Memᴰ t T.threads → t.state ≡ Clock → Memᴰ t.name T.clock
  pub device : (t : Thread) (d : ℕ) → Memᴰ t T.threads → t.state ≡ Device d → d < devices

abbrev at_beat : Tables → Tables
at_beat T = let b = one_more T.beats in
    wake_those (λ t. on_clock t.state) (λ t. Result b) T.clock (with_clock [] (with_time 0 b T))

-- the twentieth tick wakes the clock waiters
last_tick : (T : Tables) → Resting T → T.since + 1 ≡ beat_ticks → (n : ℕ) → Memᴰ n T.clock →
    some_ready (were_accepted T Tick) ≡ true
unfolding were_accepted act
last_tick T R s n m =
    ap (λ (U : Tables). some_ready (dispatch (U handing Nothing)).tables) (rest_tick T R.runner ∙ beaten)
    ∙ woken_runs (λ t. on_clock t.state) (λ t. Result (one_more T.beats)) T.clock
    (with_clock [] (with_time 0 (one_more T.beats) T)) R.runner R.ready R.queued n m
  where
    beaten : beat T ≡ at_beat T
    beaten = unfold beat in rw (eq-eqb (T.since + 1) beat_ticks s)

-- a tick before it only counts
early_tick : (T : Tables) → Resting T → T.since + 1 ≢ beat_ticks → were_accepted T Tick ≡ with_time (T.since + 1) T.beats T
unfolding were_accepted act
early_tick T R s =
    ap (λ (U : Tables). (dispatch (U handing Nothing)).tables) (rest_tick T R.runner ∙ counted)
    ∙ ap (λ (o : Outcome). o.tables) (rest_dispatch (with_time (T.since + 1) T.beats T handing Nothing) R.runner R.ready)
  where
    counted : beat T ≡ with_time (T.since + 1) T.beats T
    counted = unfold beat in rw (ne_eqb (T.since + 1) beat_ticks s)

later : (T : Tables) → Resting T → T.since + 1 < beat_ticks → Resting (with_time (T.since + 1) T.beats T)
later T R h = record { runner = R.runner; ready = R.ready; since = h; queued = R.queued; waits = R.waits; device = R.device }

-- as many ticks as the beat needs
ticks_wake : (k : ℕ) (T : Tables) → Resting T → T.since + suc k ≡ beat_ticks → (n : ℕ) → Memᴰ n T.clock →
    some_ready (outside T (replicate (suc k) Tick)) ≡ true
unfolding outside
ticks_wake zero T R s n m = last_tick T R (omega arith) n m
ticks_wake (suc k) T R s n m =
    ap (λ (U : Tables). some_ready (outside U (replicate (suc k) Tick))) (early_tick T R (omega arith))
    ∙ ticks_wake k (with_time (T.since + 1) T.beats T) (later T R (omega arith)) (omega arith) n m

-- an interrupt wakes its device's waiter
interrupt_wakes : (T : Tables) → Resting T → (d w : ℕ) → any (waits_for d) T.threads ≡ true →
    some_ready (were_accepted T (Interrupt d w)) ≡ true
unfolding were_accepted act
interrupt_wakes T R d w h =
    let m = any_member (waits_for d) T.threads h in
    ap (λ (U : Tables). some_ready (dispatch (U handing Nothing)).tables) woken
    ∙ woken_runs (waits_for d) (λ t. Result w) _ T R.runner R.ready lives m.0.name
    (map_mem (λ (t : Thread). t.name) _ (keep_mem (waits_for d) T.threads m.1 m.2))
  where
    woken : interrupt d w T ≡ wake_by_name (waits_for d) (λ t. Result w) T
    woken = unfold interrupt in rw h

    lives : (n : ℕ) → Memᴰ n (map (λ t. t.name) (keep (waits_for d) T.threads)) → live n T ≡ true
    lives n i =
        let u = mem_map (λ (t : Thread). t.name) (keep (waits_for d) T.threads) i in
        member_any (named n) T.threads u.0 (mem_keep (waits_for d) T.threads u.1).0 (eq-eqb n u.0.name u.2)

-- the thread that the series is for
first_is : (since : ℕ) (ts : List Thread) → some_waits ts ≡ true
    → (t : Thread) × Memᴰ t ts × (wakes_from_outside t.state ≡ true) × (first_woken since ts ≡ woken_by since t.state)
unfolding any first_woken
first_is since [] h = absurd (false≢true h)
first_is since (t ∷ ts) h = go (wakes_from_outside t.state) refl h (first_is since ts)
  where
    go : (b : Bool) → wakes_from_outside t.state ≡ b → (b || some_waits ts) ≡ true
        → (some_waits ts ≡ true → (u : Thread) × Memᴰ u ts × (wakes_from_outside u.state ≡ true)
        × (first_woken since ts ≡ woken_by since u.state))
        → (u : Thread) × Memᴰ u (t ∷ ts) × (wakes_from_outside u.state ≡ true)
        × ((if b then woken_by since t.state else first_woken since ts) ≡ woken_by since u.state)
    go true e i rest = (t, Memᴰ.head refl, e, refl)
    go false e i rest = let r = rest i in (r.0, Memᴰ.tail r.1, r.2, r.3)

ticks_outside : (k : ℕ) → all from_outside (replicate k Tick) ≡ true
unfolding all from_outside
ticks_outside zero = refl
ticks_outside (suc k) = ticks_outside k

abbrev Woken : Tables → List Event → Type 0
Woken T es = (all from_outside es ≡ true) × (some_ready (outside T es) ≡ true)

clock_series : (T : Tables) → Resting T → (n : ℕ) → Memᴰ n T.clock → Woken T (replicate (beat_ticks - T.since) Tick)
clock_series T R n m =
    let k : beat_ticks - T.since ≡ suc (19 - T.since) = omega (arith, R.since) in
    (ticks_outside (beat_ticks - T.since), rw k (ticks_wake (19 - T.since) T R (omega (arith, R.since)) n m))

device_series : (T : Tables) → Resting T → (d : ℕ) → d < devices → any (waits_for d) T.threads ≡ true → Woken T (Interrupt d 0 ∷ [])
unfolding all from_outside outside
device_series T R d l h = (rw (lt-ltb d devices l), interrupt_wakes T R d 0 h)

-- With somebody on clock or device, the waking series is one of ticks and interrupts, and after it somebody runs.
pub series_wakes : (T : Tables) → Resting T → some_waits T.threads ≡ true → Woken T (waking_series T)
series_wakes T R h = let f = first_is T.since T.threads h in rw f.3 (go f.0 f.1 f.0.state refl f.2)
  where
    go : (t : Thread) → Memᴰ t T.threads → (s : State) → t.state ≡ s → wakes_from_outside s ≡ true →
        Woken T (woken_by T.since s)
    go t m Running e i = unfold wakes_from_outside on_clock in absurd (false≢true i)
    go t m Ready e i = unfold wakes_from_outside on_clock in absurd (false≢true i)
    go t m (Receiving w) e i = unfold wakes_from_outside on_clock in absurd (false≢true i)
    go t m Clock e i = unfold woken_by in clock_series T R t.name (R.waits t m e)
    go t m (Device d) e i = unfold woken_by in
        device_series T R d (R.device t d m e) (member_any (waits_for d) T.threads t m (unfold at_device in rw e (eq-eqb d d refl)))
    go t m (Trapped x) e i = unfold wakes_from_outside on_clock in absurd (false≢true i)

-- ---- bytes say these events, and an idle node accepts them

-- twelve bytes: the pending devices p and the word w
word_said : (p w : ℕ) → p / wrap < wrap → w < wrap →
    decode (21 ∷ 0 ∷ 12 ∷ (four_bytes (p / wrap) ++ (four_bytes p ++ four_bytes w))) ≡ interrupt_of (pick p) w
unfolding decode field_of tag_facts facts_in meaning
word_said p w a b =
    rw bytes (ap₂ (λ (x y : ℕ). interrupt_of (pick x) y) devices_said (four_back w b))
  where
    bytes : all is_byte (21 ∷ 0 ∷ 12 ∷ (four_bytes (p / wrap) ++ (four_bytes p ++ four_bytes w))) ≡ true
    bytes = unfold all in
        all_both is_byte (four_bytes (p / wrap)) (four_bytes p ++ four_bytes w) (four_are_bytes (p / wrap))
        (all_both is_byte (four_bytes p) (four_bytes w) (four_are_bytes p) (four_are_bytes w))

    devices_said : number_from 0 (four_bytes (p / wrap) ++ (four_bytes p ++ [])) ≡ p
    devices_said = four_number 0 (p / wrap) (four_bytes p ++ []) ∙ four_number _ p [] ∙ unfold number_from in omega arith

-- the pick of a word with one bit
picks : all (λ d. (pick (2 ^ d)).refusal == 0 && (pick (2 ^ d)).device == d) (from_on 0 devices) ≡ true
unfolding all any from_on pick first_pending
picks = refl

picked : (d w : ℕ) → d < devices → interrupt_of (pick (2 ^ d)) w ≡ Interrupt d w
unfolding interrupt_of
picked d w h =
    let p = all_at (λ x. (pick (2 ^ x)).refusal == 0 && (pick (2 ^ x)).device == x) (from_on 0 devices) picks d
    (from_on_mem 0 devices d (omega arith) h) in
    rw (and_left ((pick (2 ^ d)).refusal == 0) _ p)
    (ap (λ (x : ℕ). Interrupt x w) (eqb-true (pick (2 ^ d)).device d (and_right ((pick (2 ^ d)).refusal == 0) _ p)))

-- Every tick and every interrupt in range is what some bytes say.
pub said : (e : Event) → from_outside e ≡ true → decode (bytes_of e) ≡ e
unfolding from_outside bytes_of
said Malformed h = absurd (false≢true h)
said (ByRunner c) h = absurd (false≢true h)
said Tick h = unfold decode all field_of tag_facts facts_in meaning in refl
said (Interrupt d w) h =
    let l = ltb-true d devices (and_left (ltb d devices) _ h) in
    word_said (2 ^ d) w (omega (arith, pow_mono {i = d} {j = 47} (omega arith))) (ltb-true w wrap (and_right (ltb d devices) _ h))
    ∙ picked d w l

-- And no bytes say another interrupt: those of `from_outside` are all that there are.
pub heard : (bytes : List ℕ) (d w : ℕ) → decode bytes ≡ Interrupt d w → from_outside (Interrupt d w) ≡ true
unfolding from_outside Proper
heard bytes d w e = let p : Proper (Interrupt d w) = rw e at (decode_proper bytes) in lt-ltb d devices p.0 & lt-ltb w wrap p.1

unrefused : (L : Limits) (T : Tables) (e : Event) → from_outside e ≡ true → over (status T) ≡ false → refusal L T e ≡ 0
unfolding from_outside refusal first_of is_malformed needs_runner own_rules
unrefused L T Malformed h o = absurd (false≢true h)
unrefused L T (ByRunner c) h o = absurd (false≢true h)
unrefused L T Tick h o = rw o
unrefused L T (Interrupt d w) h o = rw o

-- A node that is not halted or panicked accepts them: the step does what they would do, were they accepted.
pub step_accepts : (L : Limits) (T : Tables) (e : Event) → from_outside e ≡ true → over (status T) ≡ false →
    (step L T (bytes_of e)).tables ≡ were_accepted T e
unfolding step were_accepted
step_accepts L T e h o =
    ap (λ (x : Event). (settle (refusal L T x) T x).tables) (said e h) ∙ ap (λ (k : ℕ). (settle k T e).tables) (unrefused L T e h o)
    ∙ unfold settle in refl

ticks_run : (L : Limits) (k : ℕ) (T : Tables) → Resting T → over (status T) ≡ false → T.since + k ≤ beat_ticks
    → run L T (map bytes_of (replicate k Tick)) ≡ outside T (replicate k Tick)
unfolding run outside
ticks_run L zero T R o l = refl
ticks_run L (suc zero) T R o l = step_accepts L T Tick (unfold from_outside in refl) o
ticks_run L (suc (suc k)) T R o l =
    let U = with_time (T.since + 1) T.beats T in
    let e : were_accepted T Tick ≡ U = early_tick T R (omega arith) in
    let rest = ticks_run L (suc k) U (later T R (omega arith)) (unfold status in o) (omega arith) in
    ap (λ (X : Tables). run L X (map bytes_of (replicate (suc k) Tick))) (step_accepts L T Tick (unfold from_outside in refl) o ∙ e)
    ∙ rest ∙ sym (ap (λ (X : Tables). outside X (replicate (suc k) Tick)) e)

-- An idle node accepts the waking series.
pub series_accepted : (L : Limits) (T : Tables) → Resting T → some_waits T.threads ≡ true → over (status T) ≡ false
    → run L T (map bytes_of (waking_series T)) ≡ outside T (waking_series T)
series_accepted L T R h o = let f = first_is T.since T.threads h in rw f.3 (go f.0 f.1 f.0.state refl f.2)
  where
    go : (t : Thread) → Memᴰ t T.threads → (s : State) → t.state ≡ s → wakes_from_outside s ≡ true →
        run L T (map bytes_of (woken_by T.since s)) ≡ outside T (woken_by T.since s)
    go t m Running e i = unfold wakes_from_outside on_clock in absurd (false≢true i)
    go t m Ready e i = unfold wakes_from_outside on_clock in absurd (false≢true i)
    go t m (Receiving w) e i = unfold wakes_from_outside on_clock in absurd (false≢true i)
    go t m Clock e i = unfold woken_by in ticks_run L (beat_ticks - T.since) T R o (omega (arith, R.since))
    go t m (Device d) e i = unfold woken_by run outside in
        step_accepts L T (Interrupt d 0) (unfold from_outside in rw (lt-ltb d devices (R.device t d m e))) o
    go t m (Trapped x) e i = unfold wakes_from_outside on_clock in absurd (false≢true i)
