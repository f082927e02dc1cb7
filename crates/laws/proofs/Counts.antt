-- Counts: along a run, beats and each thread's tick count are the numbers of ticks that the rules say, modulo 2^32.
use Rattle.std.proofs.Common.{if◌then◌else◌, ◌==◌}
use Prim.Native.Nat.{ℕ, zero, suc, ◌+◌, ◌*◌, ◌/◌, ◌%◌, ◌<◌}
use mathlib.Core.Path.{◌≡◌, refl, sym, ap, ◌∙◌}
use mathlib.Core.Logic.{⊎_elim, ◌≢◌}
use mathlib.Core.Bool.{Bool, true, false, ◌&&◌, ◌||◌, not, false≢true}
use mathlib.Core.List.{List, [], ◌∷◌, map, Memᴰ}
use native.Mathlib.Omega.{arith}
use lib.Dec.{ltb}
use borrow.Author.Tests.{eqb-true, eqb-false, eq-eqb}
use Rattle.rules.specs.Lists.{one_if, any, has, keep, count, insert, Pulled, missing, pulled, pull}
use Rattle.rules.specs.Numbers.{names, beat_ticks, wrap}
use Rattle.laws.specs.Words.{Limits}
use Rattle.rules.specs.Words.{by_manager}
use Rattle.rules.specs.Tables.{Tables, in_state, with_managers, with_ticks, named, live, of_thread, change, manager, set_entry, new_thread}
use Rattle.rules.specs.Tables.{runs_as, me, start}
use Rattle.rules.specs.States.{waits_for, on_clock}
use Rattle.rules.specs.Waking.{wake_those, accepts, queue, deliver, stop}
use Rattle.rules.specs.Ending.{ended_set, without_managers, remove, misses, told_gone, release, end}
use Rattle.rules.specs.Send.{message, waits_for_decision, decides, decide, send}
use Rattle.rules.specs.Receive.{wanted_by, received, receive}
use Rattle.rules.specs.Trap.{notice, trap}
use Rattle.rules.specs.Tick.{one_more, charge, beat, rotate, tick}
use Rattle.rules.specs.Interrupt.{held_for, interrupt}
use Rattle.rules.specs.Requests.{next_name, create, terminate, set_over, wait_for_clock, take_held}
use Rattle.rules.specs.Dispatch.{dispatch}
use Rattle.rules.specs.Events.{decode}
use Rattle.rules.specs.Step.{serve, act, step}
use Rattle.rules.specs.Runs.{Input, run}
use Rattle.rules.specs.TableRules.{table_rules}
use Rattle.laws.specs.Words.{TrapKind, State, Running, Ready, Receiving, Clock, Device, Trapped, Answer, Nothing, Result, Manager}
use Rattle.laws.specs.Words.{Unset, Set, Gone, Parent, Thread, Message, Held, Runner, NoRunner, Runs, Oneself, Named, Call, Send}
use Rattle.laws.specs.Words.{Receive, CreateBrother, CreateSon, Terminate, SetManager, GetCpuTime, WaitForClock, WaitForIo, Trap}
use Rattle.laws.specs.Words.{Event, Malformed, ByRunner, Tick, Interrupt}
use Rattle.laws.specs.Counts.{if_accepted, over_run, beats_by, ticks_by, own_ticks_by, beats_in, ticks_in, ticks_of, ticks_at}
use Rattle.laws.specs.Counts.{lives_through}
use Rattle.laws.proofs.Tests.{by_if, by_runs, same?, and_left, and_right, ◌&◌}
use Rattle.laws.proofs.Tally.{count_insert, none_left, count_any, any_count}
use Rattle.laws.proofs.Threads.{names_kept, turned, turned_name, put_name}
use Rattle.laws.proofs.Steps.{by_step, by_dispatch}
use Rattle.laws.proofs.Sound.{tested_ruled}
use Rattle.laws.proofs.Kept.{rules_are_kept}

-- ---- tick counts in a changed list of threads

module _ (n : ℕ) where
  ticks_map : (f : Thread → Thread) → ((t : Thread) → (f t).name ≡ t.name) → ((t : Thread) → named n t ≡ true → (f t).ticks ≡ t.ticks) →
      (ts : List Thread) → ticks_at n (map f ts) ≡ ticks_at n ts
  unfolding of_thread
  ticks_map f a b [] = refl
  ticks_map f a b (t ∷ ts) = rw (a t) (go (named n t) refl (ticks_map f a b ts))
    where
      go : (x : Bool) → named n t ≡ x → ticks_at n (map f ts) ≡ ticks_at n ts →
          (if x then (f t).ticks else ticks_at n (map f ts)) ≡ (if x then t.ticks else ticks_at n ts)
      go true e later = b t e
      go false e later = later

  -- those that pass are changed
  ticks_some : (p : Thread → Bool) (f : Thread → Thread) → ((t : Thread) → (f t).name ≡ t.name) → ((t : Thread) → (f t).ticks ≡ t.ticks) →
      (ts : List Thread) → ticks_at n (map (λ t. if p t then f t else t) ts) ≡ ticks_at n ts
  ticks_some p f a b ts =
      ticks_map (turned p f) (turned_name p f a) (λ t _. by_if (λ (u : Thread). u.ticks ≡ t.ticks) (p t) (λ _. b t) (λ _. refl)) ts

  ticks_keep : (set : List ℕ) → has n set ≡ false → (ts : List Thread) → ticks_at n (keep (λ t. not (has t.name set)) ts) ≡ ticks_at n ts
  unfolding of_thread keep
  ticks_keep set o [] = refl
  ticks_keep set o (t ∷ ts) =
      ⊎_elim
      (λ e. rw (ap (λ (m : ℕ). has m set) (sym e.0) ∙ o, e.1))
      (λ e. by_if (λ (l : List Thread). ticks_at n l ≡ ticks_at n (t ∷ ts)) (not (has t.name set)) (λ _. rw e.1 (ticks_keep set o ts))
      (λ _. rw e.1 (ticks_keep set o ts)))
      (same? n t.name)

  ticks_insert : (p : Thread → Bool) (a : Thread) → named n a ≡ false → (ts : List Thread) → ticks_at n (insert p a ts) ≡ ticks_at n ts
  unfolding of_thread insert
  ticks_insert p a d [] = rw d
  ticks_insert p a d (t ∷ ts) =
      by_if (λ (l : List Thread). ticks_at n l ≡ ticks_at n (t ∷ ts)) (p t)
      (λ _. ap (λ (x : ℕ). if named n t then t.ticks else x) (ticks_insert p a d ts))
      (λ _. rw d)

  -- the runner's rises
  ticks_own : (ts : List Thread) → any (named n) ts ≡ true →
      ticks_at n (map (λ t. if named n t then with_ticks (one_more t.ticks) t else t) ts) ≡ one_more (ticks_at n ts)
  unfolding of_thread any
  ticks_own [] h = absurd (false≢true h)
  ticks_own (t ∷ ts) h = go (named n t) refl h (ticks_own ts)
    where
      go : (b : Bool) → named n t ≡ b → (b || any (named n) ts) ≡ true →
          (any (named n) ts ≡ true → ticks_at n (map (λ t. if named n t then with_ticks (one_more t.ticks) t else t) ts) ≡ one_more
          (ticks_at n ts)) → ticks_at n (map (λ t. if named n t then with_ticks (one_more t.ticks) t else t) (t ∷ ts)) ≡ one_more
          (ticks_at n (t ∷ ts))
      go true e i later = rw (e, e)
      go false e i later = rw (e, e) (later i)

  -- and no other
  ticks_charge : (m : ℕ) (ts : List Thread) → count (named n) ts ≡ 1 → ticks_at n ts < wrap →
      ticks_at n (map (λ t. if named m t then with_ticks (one_more t.ticks) t else t) ts) ≡ (ticks_at n ts + one_if (n == m)) % wrap
  ticks_charge m ts o l = ⊎_elim (λ d. rw (d.1, sym d.0) (ticks_own ts (count_any (named n) ts (omega arith))))
      (λ d. rw d.1 (others d.0 ∙ omega arith)) (same? n m)
    where
      others : n ≢ m → ticks_at n (map (λ t. if named m t then with_ticks (one_more t.ticks) t else t) ts) ≡ ticks_at n ts
      others d = ticks_map _ (turned_name (named m) _ (λ t. refl))
          (λ t e. by_if (λ (u : Thread). u.ticks ≡ t.ticks) (named m t)
          (λ k. absurd (d (eqb-true n t.name e ∙ sym (eqb-true m t.name k)))) (λ _. refl)) ts

-- ---- events other than the tick leave time and tick counts as they are

-- n is the name of one thread
abbrev One : ℕ → Tables → Type 0
One n T = count (named n) T.threads ≡ 1

-- time and the count of thread n are as they were
record Still (n : ℕ) (T U : Tables) : Type 0 where
  since : U.since ≡ T.since
  beats : U.beats ≡ T.beats
  ticks : ticks_at n U.threads ≡ ticks_at n T.threads

-- the count if n names one thread before and after
record Same (n : ℕ) (T U : Tables) : Type 0 where
  since : U.since ≡ T.since
  beats : U.beats ≡ T.beats
  ticks : One n T → One n U → ticks_at n U.threads ≡ ticks_at n T.threads

module _ (n : ℕ) where
  same : {T U : Tables} → Still n T U → Same n T U
  same S = record { since = S.since; beats = S.beats; ticks = λ _ _. S.ticks }

  still : {T U : Tables} → U.since ≡ T.since → U.beats ≡ T.beats → ticks_at n U.threads ≡ ticks_at n T.threads → Same n T U
  still s b t = record { since = s; beats = b; ticks = λ _ _. t }

  woken : (p : Thread → Bool) (a : Thread → Answer) (ns : List ℕ) (T : Tables) → Still n T (wake_those p a ns T)
  unfolding wake_those
  woken p a ns T = record { since = refl; beats = refl; ticks = ticks_some n p _ (λ t. refl) (λ t. refl) T.threads }

  woken_names : (p : Thread → Bool) (a : Thread → Answer) (ns : List ℕ) (T : Tables) →
      count (named n) (wake_those p a ns T).threads ≡ count (named n) T.threads
  unfolding wake_those
  woken_names p a ns T = names_kept _ (put_name p Ready a) n T.threads

  stopped : (m : ℕ) (s : State) (T : Tables) → Still n T (stop m s T)
  unfolding stop change
  stopped m s T = record { since = refl; beats = refl; ticks = ticks_some n (named m) _ (λ t. refl) (λ t. refl) T.threads }

  delivered : (m : Message) (T : Tables) → Still n T (deliver m T)
  unfolding deliver queue
  delivered m T =
      by_if (Still n T) (any (accepts m) T.threads) (λ _. woken _ _ _ T) (λ _. record { since = refl; beats = refl; ticks = refl })

  ended : (m : ℕ) (T : Tables) → Same n T (end m T)
  unfolding end release remove without_managers
  ended m T = let W = woken (λ t. misses set t.state) (λ t. told_gone t.state)
      (map (λ t. t.name) (keep (λ t. misses set t.state) R.threads)) R in
      record { since = W.since; beats = W.beats; ticks = λ _ o. W.ticks ∙ left (has n set) refl (sym (woken_names _ _ _ R) ∙ o) }
    where
      set : List ℕ
      set = ended_set T.threads m

      R : Tables
      R = remove set T

      left : (b : Bool) → has n set ≡ b → One n R → ticks_at n R.threads ≡ ticks_at n T.threads
      left true e o =
          absurd (omega (
            arith,
            none_left (λ (t : Thread). t.name) (λ x. has x set) (named n) n (λ t k. eqb-true n t.name k) e
                T.threads,
            names_kept (without_managers set) (λ t. refl) n (keep (λ t. not (has t.name set)) T.threads),
          ))
      left false e o = ticks_map n (without_managers set) (λ t. refl) (λ t _. refl) _ ∙ ticks_keep n set e T.threads

  sent : (m to w : ℕ) (T : Tables) → Same n T (send m to w T)
  unfolding send decide wake_those
  sent m to w T = by_if (Same n T) (decides m to T) (λ _. go w) (λ _. same (delivered (message to m w) T))
    where
      go : (w : ℕ) → Same n T (decide m to w T)
      go zero = still refl refl (ticks_some n (waits_for_decision m to) (in_state Ready Nothing) (λ t. refl) (λ t. refl) T.threads)
      go (suc w) = ended to T

  trapped : (m : ℕ) (k : TrapKind) (c : ℕ) (T : Tables) → Same n T (trap m k c T)
  unfolding trap
  trapped m k c T = go (of_thread Unset (λ t. manager k t.managers) m T.threads)
    where
      go : (g : Manager) → Same n T (by_manager (end m T) (λ x. deliver (notice x m c) (stop m (Trapped k) T)) g)
      go Unset = ended m T
      go (Set x) = let D = delivered (notice x m c) (stop m (Trapped k) T) in let S = stopped m (Trapped k) T in
          record { since = D.since ∙ S.since; beats = D.beats ∙ S.beats; ticks = λ _ _. D.ticks ∙ S.ticks }
      go Gone = ended m T

  created : (p : Parent) (T : Tables) → Same n T (create p T).tables
  unfolding create
  created p T = record {
    since = refl;
    beats = refl;
    ticks = λ a b. ticks_insert n _ new
        (other (named n new) (omega (arith, count_insert (named n) (λ t. ltb t.name (next_name T)) new T.threads))) T.threads;
  }
    where
      new : Thread
      new = new_thread (next_name T) p Ready

      other : (b : Bool) → one_if b ≡ 0 → b ≡ false
      other true e = absurd (omega arith)
      other false e = refl

  served : (m : ℕ) (T : Tables) (c : Call) → Same n T (serve m T c).tables
  unfolding serve receive received wait_for_clock terminate set_over change take_held
  served m T (Send to w) = sent m to w T
  served m T (Receive w) = go (pull (wanted_by m w) T.messages)
    where
      go : (x : Pulled Message) → Same n T (received m w T x).tables
      go missing = same (stopped m (Receiving w) T)
      go (pulled x xs) = still refl refl refl
  served m T CreateBrother = created _ T
  served m T CreateSon = created _ T
  served m T (Terminate Oneself) = ended m T
  served m T (Terminate (Named x)) = ended x T
  served m T (SetManager k x) = go (of_thread Unset (λ t. manager k t.managers) m T.threads)
    where
      go : (g : Manager) → Same n T (set_over g m k x T).tables
      go Unset = still refl refl (ticks_some n (named m) (λ t. with_managers (set_entry k (Set x) t.managers) t) (λ t. refl) (λ t. refl)
          T.threads)
      go (Set y) = ended m T
      go Gone = ended m T
  served m T GetCpuTime = still refl refl refl
  served m T WaitForClock = let S = stopped m Clock T in still S.since S.beats S.ticks
  served m T (WaitForIo d) = go (pull (held_for d) T.held)
    where
      go : (x : Pulled Held) → Same n T (take_held m d T x).tables
      go missing = same (stopped m (Device d) T)
      go (pulled x xs) = still refl refl refl
  served m T (Trap k c) = trapped m k c T

  interrupted : (d w : ℕ) (T : Tables) → Same n T (interrupt d w T)
  unfolding interrupt
  interrupted d w T = by_if (Same n T) (any (waits_for d) T.threads) (λ _. same (woken _ _ _ T)) (λ _. still refl refl refl)

  -- ---- the tick

  charged : (T : Tables) → ((charge T).since ≡ T.since) × ((charge T).beats ≡ T.beats)
      × (One n T → ticks_at n T.threads < wrap →
      ticks_at n (charge T).threads ≡ (ticks_at n T.threads + one_if (runs_as n T.runner)) % wrap)
  unfolding charge change runs_as
  charged T = go T.runner refl
    where
      go : (r : Runner) → T.runner ≡ r → ((charge T).since ≡ T.since) × ((charge T).beats ≡ T.beats)
          × (One n T → ticks_at n T.threads < wrap →
          ticks_at n (charge T).threads ≡ (ticks_at n T.threads + one_if (runs_as n T.runner)) % wrap)
      go NoRunner e = rw e (refl, refl, λ o l. omega arith)
      go (Runs m s) e = rw e (refl, refl, ticks_charge n m T.threads)

  beaten : (T : Tables) → (T.since + 1 ≡ beat_ticks * one_if (T.since + 1 == beat_ticks) + (beat T).since)
      × (T.beats < wrap → (beat T).beats ≡ (T.beats + one_if (T.since + 1 == beat_ticks)) % wrap)
      × (ticks_at n (beat T).threads ≡ ticks_at n T.threads) × (T.since < beat_ticks → (beat T).since < beat_ticks)
  unfolding beat wake_those
  beaten T = go (T.since + 1 == beat_ticks) refl
    where
      go : (b : Bool) → (T.since + 1 == beat_ticks) ≡ b → (T.since + 1 ≡ beat_ticks * one_if (T.since + 1 == beat_ticks) + (beat T).since)
          × (T.beats < wrap → (beat T).beats ≡ (T.beats + one_if (T.since + 1 == beat_ticks)) % wrap)
          × (ticks_at n (beat T).threads ≡ ticks_at n T.threads) × (T.since < beat_ticks → (beat T).since < beat_ticks)
      go true e = rw e (
        eqb-true (T.since + 1) beat_ticks e,
        λ _. refl,
        ticks_some n (λ t. on_clock t.state)
            (in_state Ready (Result (one_more T.beats))) (λ t. refl) (λ t. refl) T.threads,
        λ _. omega arith,
      )
      go false e = rw e (omega arith, λ l. omega arith, refl, λ l. omega (arith, eqb-false (T.since + 1) beat_ticks e))

  rotated : (T : Tables) → Still n T (rotate T)
  unfolding rotate
  rotated T = by_runs (Still n T) T.runner (λ _. record { since = refl; beats = refl; ticks = refl })
      (λ m s _. by_if (Still n T) (s == 0) (λ _. let W = woken (named m) (λ t. Nothing) (m ∷ []) T in
      record { since = W.since; beats = W.beats; ticks = W.ticks }) (λ _. record { since = refl; beats = refl; ticks = refl }))

-- what an accepted event adds to the ticks since the beat, to the beats and to the count of thread n
record Counted (n : ℕ) (T U : Tables) (ticks beats own : ℕ) : Type 0 where
  time : T.since + ticks ≡ beat_ticks * beats + U.since
  low : T.since < beat_ticks → U.since < beat_ticks
  beat : T.beats < wrap → U.beats ≡ (T.beats + beats) % wrap
  count : ticks_at n T.threads < wrap → One n T → One n U → ticks_at n U.threads ≡ (ticks_at n T.threads + own) % wrap

module _ (n : ℕ) where
  nothing : {T U : Tables} → Same n T U → Counted n T U 0 0 0
  nothing S = record { time = omega arith; low = λ l. omega arith; beat = λ l. omega arith; count = λ l a b. S.ticks a b ∙ omega arith }

  ticked : (T : Tables) → Counted n T (tick T) 1 (one_if (T.since + 1 == beat_ticks)) (one_if (runs_as n T.runner))
  unfolding tick
  ticked T =
      let C = charged n T in
      let B = beaten n (charge T) in
      let R = rotated n (beat (charge T)) in
      let same_test : one_if ((charge T).since + 1 == beat_ticks) ≡ one_if (T.since + 1 == beat_ticks) =
      ap (λ (s : ℕ). one_if (s + 1 == beat_ticks)) C.0 in
      record {
        time = omega (arith, B.0, C.0, R.since, same_test);
        low = λ l. omega (arith, R.since, B.3 (omega (arith, C.0)));
        beat = λ l. R.beats ∙ B.1 (omega (arith, C.1)) ∙ rw (C.1, same_test);
        count = λ l a b. R.ticks ∙ B.2 ∙ C.2 a l;
      }

  acted : (T : Tables) (e : Event) → Counted n T (act T e).tables (ticks_by T e) (beats_by T e) (own_ticks_by n T e)
  unfolding act ticks_by beats_by own_ticks_by
  acted T Malformed = nothing (still n refl refl refl)
  acted T (ByRunner c) = nothing (served n (me T.runner) T c)
  acted T Tick = ticked T
  acted T (Interrupt d w) = nothing (interrupted n d w T)

  dispatched : (T : Tables) (e : Event) → Counted n T (dispatch (act T e)).tables (ticks_by T e) (beats_by T e) (own_ticks_by n T e)
  dispatched T e = by_dispatch (λ (U : Tables). Counted n T U (ticks_by T e) (beats_by T e) (own_ticks_by n T e)) (act T e) (λ _ _ _. A)
      (λ _ _. A) (λ m q _ _. unfold change in
      record {
        time = A.time;
        low = A.low;
        beat = A.beat;
        count = λ l a b. ticks_some n (named m) (in_state Running Nothing) (λ t. refl)
            (λ t. refl) (act T e).tables.threads
            ∙ A.count l a (sym (names_kept _ (put_name (named m) Running (λ t. Nothing)) n (act T e).tables.threads) ∙ b);
      })
    where
      A : Counted n T (act T e).tables (ticks_by T e) (beats_by T e) (own_ticks_by n T e)
      A = acted T e

  stepped : (L : Limits) (T : Tables) (bytes : List ℕ) →
      Counted n T (step L T bytes).tables (if_accepted ticks_by L T bytes) (if_accepted beats_by L T bytes)
      (if_accepted (own_ticks_by n) L T bytes)
  stepped L T bytes = by_step (λ (U : Tables) (b : Bool). Counted n T U (if b then ticks_by T (decode bytes) else 0)
      (if b then beats_by T (decode bytes) else 0) (if b then own_ticks_by n T (decode bytes) else 0)) L T bytes
      (nothing (still n refl refl refl)) (λ _. dispatched T (decode bytes))

-- ---- the laws

-- Twenty ticks make a beat: along a run, the ticks since the last beat at its begin and the accepted ticks are 20 for each beat and the
-- ticks since the last beat at its end.
pub ticks_make_beats : (L : Limits) (T : Tables) (es : Input) →
    T.since + ticks_in L T es ≡ beat_ticks * beats_in L T es + (run L T es).since
unfolding run over_run
ticks_make_beats L T [] = omega arith
ticks_make_beats L T (e ∷ es) = omega (arith, (stepped 0 L T e).time, ticks_make_beats L (step L T e).tables es)

-- From the start: the accepted ticks are 20 for each beat, and those since the last beat.
pub ticks_from_start : (L : Limits) (es : Input) → ticks_in L start es ≡ beat_ticks * beats_in L start es + (run L start es).since
ticks_from_start L es = omega (arith, ticks_make_beats L start es)

since_low : (L : Limits) (T : Tables) (es : Input) → T.since < beat_ticks → (run L T es).since < beat_ticks
unfolding run
since_low L T [] l = l
since_low L T (e ∷ es) l = since_low L (step L T e).tables es ((stepped 0 L T e).low l)

-- So the beats from the start are the accepted ticks divided by 20, and the ticks since the last beat are the rest.
pub every_twentieth : (L : Limits) (es : Input) → (beats_in L start es ≡ ticks_in L start es / beat_ticks)
    × ((run L start es).since ≡ ticks_in L start es % beat_ticks)
every_twentieth L es = let l =
    since_low L start es (omega arith) in (omega (arith, ticks_from_start L es), omega (arith, ticks_from_start L es))

-- Beats rise by one at each accepted tick that is a twentieth, modulo 2^32.
pub beats_counted : (L : Limits) (T : Tables) (es : Input) → T.beats < wrap → (run L T es).beats ≡ (T.beats + beats_in L T es) % wrap
unfolding run over_run
beats_counted L T [] l = omega arith
beats_counted L T (e ∷ es) l = let B : (step L T e).tables.beats ≡ (T.beats + if_accepted beats_by L T e) % wrap =
    (stepped 0 L T e).beat l in omega (arith, beats_counted L (step L T e).tables es (omega arith))

-- n is the name of one thread at every point of a run, so it is the same thread: it would be missing behind the event that ends it
unfoldable pub one_through : Limits → ℕ → Tables → Input → Bool
one_through L n T [] = count (named n) T.threads == 1
one_through L n T (e ∷ es) = count (named n) T.threads == 1 && one_through L n (step L T e).tables es

one_first : (L : Limits) (n : ℕ) (T : Tables) (es : Input) → one_through L n T es ≡ true → One n T
unfolding one_through
one_first L n T [] h = eqb-true _ 1 h
one_first L n T (e ∷ es) h = eqb-true _ 1 (and_left (count (named n) T.threads == 1) _ h)

-- A thread's tick count rises by one at each accepted tick while it is the runner, modulo 2^32.
pub ticks_counted : (L : Limits) (n : ℕ) (T : Tables) (es : Input) → one_through L n T es ≡ true → ticks_at n T.threads < wrap →
    ticks_at n (run L T es).threads ≡ (ticks_at n T.threads + ticks_of L n T es) % wrap
unfolding run over_run one_through
ticks_counted L n T [] h l = omega arith
ticks_counted L n T (e ∷ es) h l =
    let later = and_right (count (named n) T.threads == 1) _ h in
    let C : ticks_at n (step L T e).tables.threads ≡ (ticks_at n T.threads + if_accepted (own_ticks_by n) L T e) % wrap =
    (stepped n L T e).count l (one_first L n T (e ∷ es) h) (one_first L n (step L T e).tables es later) in
    omega (arith, ticks_counted L n (step L T e).tables es later (omega arith))

module _ (L : Limits) (n : ℕ) (l : L.threads < names) where
  one_of : (T : Tables) → table_rules L T ≡ true → live n T ≡ true → (count (named n) T.threads == 1) ≡ true
  one_of T R h =
      eq-eqb (count (named n) T.threads) 1 (omega (arith, (tested_ruled L T R).inv.agree.once n, any_count (named n) T.threads h))

  one_alive : (T : Tables) (es : Input) → table_rules L T ≡ true → lives_through L n T es ≡ true → one_through L n T es ≡ true
  unfolding one_through lives_through
  one_alive T [] R h = one_of T R h
  one_alive T (e ∷ es) R h =
      one_of T R (and_left (live n T) _ h) & one_alive (step L T e).tables es (rules_are_kept L T e l R) (and_right (live n T) _ h)

  ticks_low : (T : Tables) → table_rules L T ≡ true → ticks_at n T.threads < wrap
  unfolding of_thread
  ticks_low T R = go T.threads (λ t m. ((tested_ruled L T R).fits.threads t m).ticks)
    where
      go : (ts : List Thread) → ((t : Thread) → Memᴰ t ts → t.ticks < wrap) → ticks_at n ts < wrap
      go [] h = omega arith
      go (t ∷ ts) h = by_if (λ (x : ℕ). x < wrap) (named n t) (λ _. h t (Memᴰ.head refl)) (λ _. go ts (λ u m. h u (Memᴰ.tail m)))

  -- The same from tables that meet the rules, of a thread that is live at every point.
  pub ticks_counted_alive : (T : Tables) (es : Input) → table_rules L T ≡ true → lives_through L n T es ≡ true →
      ticks_at n (run L T es).threads ≡ (ticks_at n T.threads + ticks_of L n T es) % wrap
  ticks_counted_alive T es R h = ticks_counted L n T es (one_alive T es R h) (ticks_low T R)
