-- Manager entries: an entry that named an ended thread is gone, not unset. Otherwise an entry changes only by its thread's own request
-- 4, 5 or 6, which sets one that is unset.
use Rattle.std.proofs.Common.{if◌then◌else◌, ◌==◌}
use Prim.Native.Nat.{ℕ, zero, suc, ◌+◌, ◌<◌}
use mathlib.Core.Path.{◌≡◌, refl, sym, ap, ap₂, ◌∙◌, subst}
use mathlib.Core.Logic.{◌⊎◌, inl, inr, ⊎_elim, ◌≢◌}
use mathlib.Core.Bool.{Bool, true, false, not}
use mathlib.Core.List.{List, [], ◌∷◌, map, Memᴰ}
use native.Mathlib.Omega.{arith}
use lib.Dec.{ltb}
use borrow.Author.Tests.{eqb-true, ne_eqb}
use Rattle.rules.specs.Lists.{any, has, keep, insert, Pulled, missing, pulled, pull}
use Rattle.rules.specs.Numbers.{names, full_slice, beat_ticks}
use Rattle.laws.specs.Words.{Limits}
use Rattle.rules.specs.Words.{by_manager}
use Rattle.rules.specs.Tables.{Tables, with_runner, with_ready, in_state, with_ticks, named, live, of_thread, change, manager, new_thread}
use Rattle.rules.specs.States.{waits_for, on_clock}
use Rattle.rules.specs.Waking.{wake_those, accepts, queue, deliver, stop}
use Rattle.rules.specs.Ending.{ended_set, gone_if, without_managers, remove, misses, told_gone, release, end}
use Rattle.rules.specs.Send.{message, waits_for_decision, decides, decide, send}
use Rattle.rules.specs.Receive.{wanted_by, received, receive}
use Rattle.rules.specs.Trap.{notice, trap}
use Rattle.rules.specs.Tick.{one_more, charge, beat, rotate, tick}
use Rattle.rules.specs.Interrupt.{held_for, interrupt}
use Rattle.rules.specs.Requests.{next_name, create, terminate, set_over, wait_for_clock, take_held}
use Rattle.rules.specs.Dispatch.{dispatch}
use Rattle.rules.specs.Events.{decode}
use Rattle.rules.specs.Step.{serve, act, step}
use Rattle.rules.specs.TableRules.{table_rules}
use Rattle.laws.specs.Words.{TrapKind, Program, Tlb, SysBp, State, Running, Ready, Receiving, Clock, Device, Trapped, Answer, Nothing}
use Rattle.laws.specs.Words.{Result, Manager, Unset, Set, Gone, Parent, Thread, Message, Held, Runs, Oneself, Named, Call, Send}
use Rattle.laws.specs.Words.{Receive, CreateBrother, CreateSon, Terminate, SetManager, GetCpuTime, WaitForClock, WaitForIo, Trap}
use Rattle.laws.specs.Words.{Event, Malformed, ByRunner, Tick, Interrupt}
use Rattle.laws.specs.Entries.{Fate, stays, goes, is_set}
use Rattle.laws.specs.Types.{Entry}
use Rattle.laws.specs.Requests.{entry, requester}
use Rattle.laws.proofs.Tests.{by_if, by_runs, clash, same?}
use Rattle.laws.proofs.Tally.{none_any}
use Rattle.laws.proofs.Threads.{live_member, of_only, left, turned, turned_name, turned_live}
use Rattle.laws.proofs.Steps.{by_step, by_dispatch}
use Rattle.laws.proofs.Single.{of_none}
use Rattle.laws.proofs.Names.{name_free}
use Rattle.laws.proofs.Ending.{gone_all, gone_manager, origins, ending_forgets}
use Rattle.laws.proofs.Sound.{tested_ruled}
use Rattle.laws.proofs.Kept.{rules_are_kept}
use Rattle.laws.proofs.Requests.{put, put_sets, put_keeps}

-- ---- an ending

gone_named : (set : List ℕ) (m : ℕ) → has m set ≡ true → gone_if set (Set m) ≡ Gone
unfolding gone_if
gone_named set m h = rw h

gone_other : (set : List ℕ) (g : Manager) → ((m : ℕ) → g ≡ Set m → has m set ≡ false) → gone_if set g ≡ g
unfolding gone_if
gone_other set Unset h = refl
gone_other set (Set m) h = rw (h m refl)
gone_other set Gone h = refl

-- After an ending, of every thread that is left and for each kind: an entry that named a member of the ended set is gone, and every other
-- entry is as it was.
pub ended_managers_are_gone : (n : ℕ) (T : Tables) (u : Thread) → Memᴰ u (end n T).threads →
    (t : Thread) × Memᴰ t T.threads × (t.name ≡ u.name)
    × ((k : TrapKind) (m : ℕ) → manager k t.managers ≡ Set m → has m (ended_set T.threads n) ≡ true → manager k u.managers ≡ Gone)
    × ((k : TrapKind) → ((m : ℕ) → manager k t.managers ≡ Set m → has m (ended_set T.threads n) ≡ false) →
    manager k u.managers ≡ manager k t.managers)
ended_managers_are_gone n T u i =
    let r = origins n T u i in
    let set = ended_set T.threads n in (
      r.0,
      r.1,
      sym r.3.name,
      λ k m e h. r.3.managers k ∙ ap (gone_if set) e ∙ gone_named set m h,
      λ k h. r.3.managers k ∙ gone_other set _ h,
    )

-- ---- a look-up in a changed list of threads

module _ (k : TrapKind) (n : ℕ) where
  -- those that pass are changed, and keep name and managers
  entry_some : (p : Thread → Bool) (f : Thread → Thread) → ((t : Thread) → (f t).name ≡ t.name) →
      ((t : Thread) → (f t).managers ≡ t.managers) → (ts : List Thread) → entry k n (map (turned p f) ts) ≡ entry k n ts
  unfolding of_thread
  entry_some p f a b [] = refl
  entry_some p f a b (t ∷ ts) =
      rw (turned_name p f a t)
      (ap₂ (λ (x y : Manager). if named n t then x else y)
      (by_if (λ (u : Thread). manager k u.managers ≡ manager k t.managers) (p t) (λ _. ap (manager k) (b t)) (λ _. refl))
      (entry_some p f a b ts))

  entry_gone : (set : List ℕ) (ts : List Thread) → entry k n (map (without_managers set) ts) ≡ gone_if set (entry k n ts)
  unfolding of_thread without_managers gone_if
  entry_gone set [] = refl
  entry_gone set (t ∷ ts) = go (named n t) (entry_gone set ts)
    where
      go : (b : Bool) → entry k n (map (without_managers set) ts) ≡ gone_if set (entry k n ts) →
          (if b then manager k (gone_all set t.managers) else entry k n (map (without_managers set) ts)) ≡ gone_if set
          (if b then manager k t.managers else entry k n ts)
      go true later = gone_manager set k t.managers
      go false later = later

  entry_left : (set : List ℕ) → has n set ≡ false → (ts : List Thread) → entry k n (left set ts) ≡ entry k n ts
  unfolding of_thread keep
  entry_left set o [] = refl
  entry_left set o (t ∷ ts) =
      ⊎_elim
      (λ e. rw (ap (λ (m : ℕ). has m set) (sym e.0) ∙ o, e.1))
      (λ e. by_if (λ (l : List Thread). entry k n l ≡ entry k n (t ∷ ts)) (not (has t.name set)) (λ _. rw e.1 (entry_left set o ts))
      (λ _. rw e.1 (entry_left set o ts)))
      (same? n t.name)

  entry_insert : (p : Thread → Bool) (a : Thread) → named n a ≡ false → (ts : List Thread) → entry k n (insert p a ts) ≡ entry k n ts
  unfolding of_thread insert
  entry_insert p a d [] = rw d
  entry_insert p a d (t ∷ ts) =
      by_if (λ (l : List Thread). entry k n l ≡ entry k n (t ∷ ts)) (p t)
      (λ _. ap (λ (x : Manager). if named n t then manager k t.managers else x) (entry_insert p a d ts))
      (λ _. rw d)

-- ---- what becomes of an entry

-- of a thread that is live before and after
record Fared (k : TrapKind) (n : ℕ) (T : Tables) (e : Event) (U : Tables) : Type 0 where
  fate : live n U ≡ true → Fate k n T e U

module _ (k : TrapKind) (n : ℕ) (e : Event) where
  same : (T U : Tables) → entry k n U.threads ≡ entry k n T.threads → Fared k n T e U
  same T U i = record { fate = λ _. stays i }

  woken : (p : Thread → Bool) (a : Thread → Answer) (ns : List ℕ) (T : Tables) →
      entry k n (wake_those p a ns T).threads ≡ entry k n T.threads
  unfolding wake_those
  woken p a ns T = entry_some k n p (λ t. in_state Ready (a t) t) (λ t. refl) (λ t. refl) T.threads

  stopped : (m : ℕ) (s : State) (T : Tables) → entry k n (stop m s T).threads ≡ entry k n T.threads
  unfolding stop change
  stopped m s T = entry_some k n (named m) (in_state s Nothing) (λ t. refl) (λ t. refl) T.threads

  delivered : (m : Message) (T : Tables) → entry k n (deliver m T).threads ≡ entry k n T.threads
  unfolding deliver queue
  delivered m T = by_if (λ (U : Tables). entry k n U.threads ≡ entry k n T.threads) (any (accepts m) T.threads)
      (λ _. woken _ _ _ T) (λ _. refl)

  ended : (m : ℕ) (T : Tables) → Fared k n T e (end m T)
  unfolding end release remove wake_those
  ended m T = record {
    fate = λ l. let r = live_member (end m T).threads n l in
        go (entry k n T.threads) refl (looked (ap (λ (x : ℕ). has x set) r.2 ∙ (ending_forgets m T).threads r.0 r.1));
  }
    where
      set : List ℕ
      set = ended_set T.threads m

      looked : has n set ≡ false → entry k n (end m T).threads ≡ gone_if set (entry k n T.threads)
      looked o = entry_some k n (λ t. misses set t.state) (λ t. in_state Ready (told_gone t.state) t) (λ t. refl) (λ t. refl)
          (map (without_managers set) (left set T.threads)) ∙ entry_gone k n set (left set T.threads)
          ∙ ap (gone_if set) (entry_left k n set o T.threads)

      dead : (x : ℕ) → has x set ≡ true → live x (end m T) ≡ false
      dead x h = none_any (named x) (end m T).threads (λ u i. out u i (named x u) refl)
        where
          out : (u : Thread) → Memᴰ u (end m T).threads → (b : Bool) → named x u ≡ b → named x u ≡ false
          out u i true q = absurd (clash h (ap (λ (y : ℕ). has y set) (eqb-true x u.name q) ∙ (ending_forgets m T).threads u i))
          out u i false q = q

      go : (g : Manager) → entry k n T.threads ≡ g → entry k n (end m T).threads ≡ gone_if set (entry k n T.threads) →
          Fate k n T e (end m T)
      go Unset i h = stays (h ∙ gone_other set _ (λ x j. let z : ◌≡◌ {A = ℕ} 0 1 = cc in absurd (omega arith)))
      go (Set x) i h = in_set (has x set) refl
        where
          in_set : (b : Bool) → has x set ≡ b → Fate k n T e (end m T)
          in_set true q = goes x i (dead x q) (h ∙ ap (gone_if set) i ∙ gone_named set x q)
          in_set false q = stays (h ∙ gone_other set _ (λ y j. let w : x ≡ y = cc in ap (λ (z : ℕ). has z set) (sym w) ∙ q))
      go Gone i h = stays (h ∙ gone_other set _ (λ x j. let z : ◌≡◌ {A = ℕ} 0 1 = cc in absurd (omega arith)))

  sent : (m to w : ℕ) (T : Tables) → Fared k n T e (send m to w T)
  unfolding send decide wake_those
  sent m to w T = by_if (Fared k n T e) (decides m to T) (λ _. go w) (λ _. same T _ (delivered (message to m w) T))
    where
      go : (w : ℕ) → Fared k n T e (decide m to w T)
      go zero = same T _ (entry_some k n (waits_for_decision m to) (in_state Ready Nothing) (λ t. refl) (λ t. refl) T.threads)
      go (suc w) = ended to T

  trapped : (m : ℕ) (j : TrapKind) (c : ℕ) (T : Tables) → Fared k n T e (trap m j c T)
  unfolding trap
  trapped m j c T = go (of_thread Unset (λ t. manager j t.managers) m T.threads)
    where
      go : (g : Manager) → Fared k n T e (by_manager (end m T) (λ x. deliver (notice x m c) (stop m (Trapped j) T)) g)
      go Unset = ended m T
      go (Set x) = same T _ (delivered (notice x m c) (stop m (Trapped j) T) ∙ stopped m (Trapped j) T)
      go Gone = ended m T

  created : (p : Parent) (T : Tables) → live n T ≡ true → live (next_name T) T ≡ false → Fared k n T e (create p T).tables
  unfolding create
  created p T l d = same T _ (entry_insert k n (λ t. ltb t.name (next_name T)) (new_thread (next_name T) p Ready)
      (ne_eqb n (next_name T) (λ i. clash (ap (λ (x : ℕ). live x T) (sym i) ∙ l) d)) T.threads)

-- two kinds are the same, or not
kind? : (j k : TrapKind) → (j ≡ k) ⊎ (j ≢ k)
kind? Program Program = inl refl
kind? Program Tlb = inr (λ e. let z : ◌≡◌ {A = ℕ} 0 1 = cc in absurd (omega arith))
kind? Program SysBp = inr (λ e. let z : ◌≡◌ {A = ℕ} 0 1 = cc in absurd (omega arith))
kind? Tlb Program = inr (λ e. let z : ◌≡◌ {A = ℕ} 0 1 = cc in absurd (omega arith))
kind? Tlb Tlb = inl refl
kind? Tlb SysBp = inr (λ e. let z : ◌≡◌ {A = ℕ} 0 1 = cc in absurd (omega arith))
kind? SysBp Program = inr (λ e. let z : ◌≡◌ {A = ℕ} 0 1 = cc in absurd (omega arith))
kind? SysBp Tlb = inr (λ e. let z : ◌≡◌ {A = ℕ} 0 1 = cc in absurd (omega arith))
kind? SysBp SysBp = inl refl

module _ (k : TrapKind) (n : ℕ) (T : Tables) (l : live n T ≡ true) (d : live (next_name T) T ≡ false) where
  set_by : (j : TrapKind) (x : ℕ) → entry j (requester T) T.threads ≡ Unset →
      Fared k n T (ByRunner (SetManager j x)) (put j x (requester T) T)
  set_by j x u = record {
    fate = λ _. ⊎_elim
        (λ i. ⊎_elim (λ h. own i.0 h) (λ h. stays (put_keeps j x (requester T) T k n (inr h))) (kind? k j))
        (λ i. stays (put_keeps j x (requester T) T k n (inl i.0))) (same? n (requester T));
  }
    where
      own : n ≡ requester T → k ≡ j → Fate k n T (ByRunner (SetManager j x)) (put j x (requester T) T)
      own i h = is_set x (ap₂ (λ (y : TrapKind) (m : ℕ). entry y m T.threads) h i ∙ u)
          (ap₂ (λ (y : TrapKind) (m : ℕ). entry y m (put j x (requester T) T).threads) h i
          ∙ put_sets j x (requester T) T (ap (λ (m : ℕ). live m T) (sym i) ∙ l)) (ap (λ (y : TrapKind). ByRunner (SetManager y x)) (sym h))
          (sym i)

  served : (c : Call) → Fared k n T (ByRunner c) (serve (requester T) T c).tables
  unfolding serve receive received wait_for_clock terminate set_over change take_held
  served (Send to w) = sent k n _ (requester T) to w T
  served (Receive w) = go (pull (wanted_by (requester T) w) T.messages)
    where
      go : (x : Pulled Message) → Fared k n T (ByRunner (Receive w)) (received (requester T) w T x).tables
      go missing = same k n _ T _ (stopped k n (ByRunner (Receive w)) (requester T) (Receiving w) T)
      go (pulled x xs) = same k n _ T _ refl
  served CreateBrother = created k n _ _ T l d
  served CreateSon = created k n _ _ T l d
  served (Terminate Oneself) = ended k n _ (requester T) T
  served (Terminate (Named x)) = ended k n _ x T
  served (SetManager j x) = go (entry j (requester T) T.threads) refl
    where
      go : (g : Manager) → entry j (requester T) T.threads ≡ g →
          Fared k n T (ByRunner (SetManager j x)) (set_over g (requester T) j x T).tables
      go Unset i = set_by j x i
      go (Set y) i = ended k n (ByRunner (SetManager j x)) (requester T) T
      go Gone i = ended k n (ByRunner (SetManager j x)) (requester T) T
  served GetCpuTime = same k n _ T T refl
  served WaitForClock = same k n _ T _ (stopped k n (ByRunner WaitForClock) (requester T) Clock T)
  served (WaitForIo x) = go (pull (held_for x) T.held)
    where
      go : (h : Pulled Held) → Fared k n T (ByRunner (WaitForIo x)) (take_held (requester T) x T h).tables
      go missing = same k n _ T _ (stopped k n (ByRunner (WaitForIo x)) (requester T) (Device x) T)
      go (pulled h hs) = same k n _ T _ refl
  served (Trap j c) = trapped k n _ (requester T) j c T

  ticked : entry k n (tick T).threads ≡ entry k n T.threads
  unfolding tick charge beat rotate change
  ticked = rotated (beat (charge T)) ∙ beaten (charge T)
      ∙ by_runs (λ (U : Tables). entry k n U.threads ≡ entry k n T.threads) T.runner (λ _. refl)
      (λ m s _. entry_some k n (named m) (λ t. with_ticks (one_more t.ticks) t) (λ t. refl) (λ t. refl) T.threads)
    where
      rotated : (U : Tables) → entry k n (rotate U).threads ≡ entry k n U.threads
      rotated U = by_runs (λ (W : Tables). entry k n W.threads ≡ entry k n U.threads) U.runner (λ _. refl)
          (λ m s _. by_if (λ (W : Tables). entry k n W.threads ≡ entry k n U.threads) (s == 0)
          (λ _. woken k n Tick (named m) (λ t. Nothing) (m ∷ []) U) (λ _. refl))

      beaten : (U : Tables) → entry k n (beat U).threads ≡ entry k n U.threads
      beaten U = by_if (λ (W : Tables). entry k n W.threads ≡ entry k n U.threads) (U.since + 1 == beat_ticks)
          (λ _. unfold wake_those in entry_some k n (λ t. on_clock t.state) (in_state Ready (Result (one_more U.beats))) (λ t. refl)
          (λ t. refl) U.threads) (λ _. refl)

  acted : (e : Event) → Fared k n T e (act T e).tables
  unfolding act interrupt
  acted Malformed = same k n _ T T refl
  acted (ByRunner c) = served c
  acted Tick = same k n _ T _ ticked
  acted (Interrupt x w) = by_if (Fared k n T (Interrupt x w)) (any (waits_for x) T.threads)
      (λ _. same k n _ T _ (woken k n (Interrupt x w) _ _ _ T)) (λ _. same k n _ T _ refl)

  -- the front of the queue runs: entries and names stay
  next : (e : Event) (m : ℕ) (q : List ℕ) (U : Tables) → Fared k n T e U →
      Fared k n T e (with_runner (Runs m full_slice) (with_ready q (change m (in_state Running Nothing) U)))
  unfolding change
  next e m q U F = record { fate = λ i. go (F.fate (sym (alive n) ∙ i)) }
    where
      W : Tables
      W = with_runner (Runs m full_slice) (with_ready q (change m (in_state Running Nothing) U))

      alive : (x : ℕ) → live x W ≡ live x U
      alive x = turned_live (named m) (in_state Running Nothing) (λ t. refl) x U.threads

      kept : entry k n W.threads ≡ entry k n U.threads
      kept = entry_some k n (named m) (in_state Running Nothing) (λ t. refl) (λ t. refl) U.threads

      go : Fate k n T e U → Fate k n T e W
      go (stays i) = stays (kept ∙ i)
      go (goes x i j h) = goes x i (alive x ∙ j) (kept ∙ h)
      go (is_set x i j h o) = is_set x i (kept ∙ j) h o

  dispatched : (e : Event) → Fared k n T e (dispatch (act T e)).tables
  dispatched e =
      by_dispatch (Fared k n T e) (act T e) (λ _ _ _. acted e) (λ _ _. acted e) (λ m q _ _. next e m q (act T e).tables (acted e))

-- ---- the laws

-- a manager that is set is live: a table rule
entry_lives : (ts : List Thread) (own m : ℕ) → Entry ts own (Set m) → any (named m) ts ≡ true
unfolding Entry
entry_lives ts own m h = h.0

module _ (L : Limits) (T : Tables) (bytes : List ℕ) (few : L.threads < names) (R : table_rules L T ≡ true) where
  -- Over any event, an entry of a thread that is live before and after it stays; or it named a thread that has ended, and is gone; or it
  -- was unset, and its thread has set it.
  pub entry_fares : (k : TrapKind) (n : ℕ) → live n T ≡ true → live n (step L T bytes).tables ≡ true →
      Fate k n T (decode bytes) (step L T bytes).tables
  entry_fares k n l i =
      let I = (tested_ruled L T R).inv in
      (by_step (λ (U : Tables) (b : Bool). Fared k n T (decode bytes) U) L T bytes (same k n _ T T refl)
      (λ _. dispatched k n T l (name_free L T few I.last I.few) (decode bytes))).fate i

  -- An entry that named a thread that is no longer there is gone, not unset.
  pub entry_of_the_ended_is_gone : (k : TrapKind) (n m : ℕ) → live n (step L T bytes).tables ≡ true → entry k n T.threads ≡ Set m →
      live m (step L T bytes).tables ≡ false →
      entry k n (step L T bytes).tables.threads ≡ Gone
  entry_of_the_ended_is_gone k n m i e d = go (entry_fares k n (alive (live n T) refl) i)
    where
      U : Tables
      U = (step L T bytes).tables

      alive : (b : Bool) → live n T ≡ b → live n T ≡ true
      alive true h = h
      alive false h = let z : ◌≡◌ {A = ℕ} 0 1 = cc (of_none T Unset (λ t. manager k t.managers) n h) in absurd (omega arith)

      set_lives : entry k n U.threads ≡ Set m → live m U ≡ true
      set_lives h =
          let S = tested_ruled L U (rules_are_kept L T bytes few R) in
          let r = live_member U.threads n i in
          let o = of_only Unset (λ t. manager k t.managers) n U.threads (S.inv.agree.once n) r.0 r.1 (sym r.2) in
          entry_lives U.threads r.0.name m
          (subst (Entry U.threads r.0.name) (sym o ∙ h) ((S.fits.threads r.0 r.1).entries k))

      go : Fate k n T (decode bytes) U → entry k n U.threads ≡ Gone
      go (stays h) = absurd (clash (set_lives (h ∙ e)) d)
      go (goes x a b c) = c
      go (is_set x a b c o) = let z : ◌≡◌ {A = ℕ} 0 1 = cc in absurd (omega arith)
