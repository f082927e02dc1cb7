-- What the requests do, in words of their own: GETCPUTIME, WAITFORIO, the managers, brothers and sons.
use Rattle.std.proofs.Common.{if◌then◌else◌, ◌==◌}
use Prim.Native.Nat.{ℕ, ◌≤◌, ◌<◌}
use mathlib.Core.Path.{◌≡◌, refl, sym, ap, ap₂, ◌∙◌, subst}
use mathlib.Core.Logic.{◌⊎◌, inl, inr, ⊎_elim, ◌≢◌}
use mathlib.Core.Bool.{Bool, true, false, ◌||◌, not, false≢true}
use mathlib.Core.List.{List, [], ◌∷◌, map, Memᴰ}
use native.Mathlib.Omega.{arith}
use borrow.Author.Tests.{eqb-true, eq-eqb, ne_eqb}
use Rattle.rules.specs.Lists.{any, has, keep, count, times_in, missing, pulled, behind, pull}
use Rattle.rules.specs.Numbers.{names}
use Rattle.laws.specs.Words.{Limits}
use Rattle.rules.specs.Tables.{Tables, with_threads, with_held, with_managers, in_state, named, live, of_thread, change, manager, set_entry}
use Rattle.rules.specs.Tables.{new_thread}
use Rattle.rules.specs.Waking.{Outcome, ◌handing◌, stop}
use Rattle.rules.specs.Interrupt.{held_for}
use Rattle.rules.specs.Ending.{ended_set, end}
use Rattle.rules.specs.Requests.{next_name, create, set_over, take_held}
use Rattle.rules.specs.Dispatch.{dispatch}
use Rattle.rules.specs.Events.{decode}
use Rattle.rules.specs.Refusals.{refusal}
use Rattle.rules.specs.Step.{Stepped, serve, act, decided, settle, step}
use Rattle.rules.specs.TableRules.{table_rules}
use Rattle.laws.specs.Words.{TrapKind, Program, Tlb, SysBp, Running, Ready, Device, Nothing, Result, Manager, Unset, Set, Gone}
use Rattle.laws.specs.Words.{Managers, Parent, NoParent, ParentIs, Thread, Held, Call, CreateBrother, CreateSon, SetManager}
use Rattle.laws.specs.Words.{GetCpuTime, WaitForIo}
use Rattle.laws.specs.Requests.{Accepted, requester, entry, Made}
use Rattle.laws.specs.Types.{Places}
use Rattle.laws.specs.Counts.{ticks_at}
use Rattle.laws.proofs.Tests.{clash, same?, or_false, not_true}
use Rattle.laws.proofs.Tally.{none_passes, count_cons, count_any, none_any}
use Rattle.laws.proofs.Members.{mem_keep, insert_new, insert_old, mem_insert, map_mem}
use Rattle.laws.proofs.Queues.{times_self}
use Rattle.laws.proofs.Threads.{live_member, of_only, turned, turned_name, turned_live}
use Rattle.laws.proofs.Steps.{Called, called, by_dispatch}
use Rattle.laws.proofs.Single.{rest_none, rest_once, dispatch_stays}
use Rattle.laws.proofs.Names.{name_free}
use Rattle.laws.proofs.Places.{at_run}
use Rattle.laws.proofs.PlacesKept.{runner_live}
use Rattle.laws.proofs.Closure.{ended_holds}
use Rattle.laws.proofs.Ending.{ending_forgets}
use Rattle.laws.proofs.Sound.{tested_ruled}

module _ {L : Limits} {T : Tables} {bytes : List ℕ} {c : Call} (A : Accepted L T bytes c) where
  served : step L T bytes ≡ decided 0 (dispatch (serve (requester T) T c))
  unfolding step settle act
  served = ap (λ r. settle r T (decode bytes)) A.accepted ∙ ap (λ e. decided 0 (dispatch (act T e))) A.asked

  call : Called L T c
  call = called L T c (ap (refusal L T) (sym A.asked) ∙ A.accepted)

  -- where the requester goes on
  pub goes_on : (o : Outcome) → serve (requester T) T c ≡ o → o.tables.runner ≡ T.runner → step L T bytes ≡ decided 0 o
  goes_on o e r =
      served ∙ ap (λ x. decided 0 (dispatch x)) e ∙ ap (decided 0) (dispatch_stays o call.name call.slice (r ∙ call.runner))

-- ---- "7 GETCPUTIME (own tick count)"

-- The requester is handed its count, and nothing changes.
pub cpu_time_is_the_count : (L : Limits) (T : Tables) (bytes : List ℕ) → Accepted L T bytes GetCpuTime →
    ((step L T bytes).decision.answer ≡ Result (ticks_at (requester T) T.threads)) × ((step L T bytes).tables ≡ T)
unfolding serve
cpu_time_is_the_count L T bytes A =
    let s = goes_on A (T handing Result (ticks_at (requester T) T.threads)) refl refl in
    (ap (λ x. x.decision.answer) s, ap (λ x. x.tables) s)

-- ---- "9 WAITFORIO (a held status is taken at once and cleared)"

module _ {A : Type 0} where
  pub kept_all : (p : A → Bool) (l : List A) → count p l ≡ 0 → keep (λ y. not (p y)) l ≡ l
  unfolding keep
  kept_all p [] z = refl
  kept_all p (y ∷ l) z =
      rw (none_passes p (y ∷ l) y z (Memᴰ.head refl)) (ap (λ r. y ∷ r) (kept_all p l (omega (arith, count_cons p y l))))

  -- the only one that passes is pulled out, and the others stay
  pull_only : (p : A → Bool) (l : List A) (x : A) → count p l ≤ 1 → Memᴰ x l → p x ≡ true →
      pull p l ≡ pulled x (keep (λ y. not (p y)) l)
  unfolding pull behind keep
  pull_only p [] x o x5 h = elim x5 [ ]
  pull_only p (y ∷ l) x o (Memᴰ.head e) h =
      let k : p y ≡ true = ap p (sym e) ∙ h in
      rw (k, e) (ap (λ r. pulled y r) (sym (kept_all p l (rest_none p y l o k))))
  pull_only p (y ∷ l) x o (Memᴰ.tail m) h = go (p y) refl (pull_only p l x (rest_once p y l o) m h)
    where
      go : (b : Bool) → p y ≡ b → pull p l ≡ pulled x (keep (λ v. not (p v)) l) →
          (if b then pulled y l else behind y (pull p l)) ≡ pulled x (if not b then y
          ∷ keep (λ v. not (p v)) l else keep (λ v. not (p v)) l)
      go true k later = absurd (clash h (none_passes p l x (rest_none p y l o k) m))
      go false k later = ap (behind y) later

  pull_none : (p : A → Bool) (l : List A) → any p l ≡ false → pull p l ≡ missing
  unfolding pull behind any
  pull_none p [] h = refl
  pull_none p (y ∷ l) h = let r = or_false (p y) (any p l) h in rw r.0 (ap (behind y) (pull_none p l r.1))

-- A word that is held for the device is handed over at once. Afterwards the words of the other devices are held and none for this one,
-- and everything else is as it was.
pub held_word_is_taken : (L : Limits) (T : Tables) (bytes : List ℕ) (d : ℕ) → table_rules L T ≡ true → Accepted L T bytes (WaitForIo d) →
    (h : Held) → Memᴰ h T.held → h.device ≡ d →
    ((step L T bytes).decision.answer ≡ Result h.word)
    × ((step L T bytes).tables ≡ with_held (keep (λ x. not (x.device == d)) T.held) T)
    × (any (λ x. x.device == d) (step L T bytes).tables.held ≡ false)
unfolding serve take_held
held_word_is_taken L T bytes d R A h m e =
    let few = (tested_ruled L T R).fits.waiters d in
    let q = pull_only (held_for d) T.held h (omega arith) m (eq-eqb h.device d e) in
    let s = goes_on A (with_held (keep (λ x. not (x.device == d)) T.held) T handing Result h.word)
    (ap (take_held (requester T) d T) q) refl in (
      ap (λ x. x.decision.answer) s,
      ap (λ x. x.tables) s,
      ap (λ x. any (λ y. y.device == d) x.tables.held) s
          ∙ none_any _ _ (λ x n. not_true _ (mem_keep (λ y. not (y.device == d)) T.held n).1),
    )

-- With no word held for it the requester waits for the device, without an answer, and the words held are as they were.
pub device_is_waited_for : (L : Limits) (T : Tables) (bytes : List ℕ) (d : ℕ) → table_rules L T ≡ true → Accepted L T bytes (WaitForIo d) →
    any (λ x. x.device == d) T.held ≡ false →
    (u : Thread) × Memᴰ u (step L T bytes).tables.threads × (u.name ≡ requester T) × (u.state ≡ Device d) × (u.answer ≡ Nothing)
    × ((step L T bytes).tables.held ≡ T.held)
unfolding serve take_held stop change
device_is_waited_for L T bytes d R A none =
    let C = call A in
    let P = subst (λ r. Places T.threads r T.ready T.clock) C.runner (tested_ruled L T R).inv.agree in
    let one = at_run C.name C.slice P in
    let t = live_member T.threads C.name (count_any (named C.name) T.threads (omega arith)) in
    let s = served A ∙ ap (λ x. decided 0 (dispatch (take_held (requester T) d T x))) (pull_none (held_for d) T.held none)
    ∙ ap (λ n. decided 0 (dispatch (stop n (Device d) T handing Nothing))) C.caller in
    let r = waiting C.name t.0 t.1 t.2 one.1 in
    let e : r.0.name ≡ requester T = ◌∙◌ {a = r.0.name} r.2 (sym C.caller) in
    subst (λ (x : Stepped). (u : Thread) × Memᴰ u x.tables.threads × (u.name ≡ requester T) × (u.state ≡ Device d)
    × (u.answer ≡ Nothing) × (x.tables.held ≡ T.held)) (sym s)
    (r.0, r.1, e, r.3, r.4, r.5)
  where
    waiting : (n : ℕ) (t : Thread) → Memᴰ t T.threads → n ≡ t.name → times_in T.ready n ≡ 0 →
        (u : Thread) × Memᴰ u (dispatch (stop n (Device d) T handing Nothing)).tables.threads × (u.name ≡ n) × (u.state ≡ Device d)
        × (u.answer ≡ Nothing) × ((dispatch (stop n (Device d) T handing Nothing)).tables.held ≡ T.held)
    waiting n t m e z =
        by_dispatch (λ (U : Tables). (u : Thread) × Memᴰ u U.threads × (u.name ≡ n) × (u.state ≡ Device d) × (u.answer ≡ Nothing)
        × (U.held ≡ T.held)) (stop n (Device d) T handing Nothing)
        (λ _ _ _. (w, there, sym e, refl, refl, refl)) (λ _ _. (w, there, sym e, refl, refl, refl))
        (λ x q _ i. (
          w,
          subst (λ (v : Thread). Memᴰ v (map (turned (named x) (in_state Running Nothing)) stopped)) (other x q i)
              (map_mem (turned (named x) (in_state Running Nothing)) stopped there),
          sym e,
          refl,
          refl,
          refl,
        ))
      where
        w : Thread
        w = in_state (Device d) Nothing t

        stopped : List Thread
        stopped = map (turned (named n) (in_state (Device d) Nothing)) T.threads

        there : Memᴰ w stopped
        there = subst (λ (v : Thread). Memᴰ v stopped) (rw (eq-eqb n t.name e))
            (map_mem (turned (named n) (in_state (Device d) Nothing)) T.threads m)

        other : (x : ℕ) (q : List ℕ) → T.ready ≡ x ∷ q → turned (named x) (in_state Running Nothing) w ≡ w
        other x q i =
            rw (ne_eqb x t.name
            (λ k. absurd (omega (arith, times_self n q, sym (ap (λ l. times_in l n) (i ∙ ap (λ y. y ∷ q) (k ∙ sym e))) ∙ z))))

-- ---- "4, 5, 6 set the manager for kinds 0, 1, 2 (result 0; if that entry is set or gone, the requester ends)"

-- nobody has the name of a thread that ended
ended_is_dead : (n : ℕ) (T : Tables) → live n (end n T) ≡ false
ended_is_dead n T = none_any (named n) (end n T).threads (λ u m. go u m (named n u) refl)
  where
    go : (u : Thread) → Memᴰ u (end n T).threads → (b : Bool) → named n u ≡ b → named n u ≡ false
    go u m true e = absurd (clash (ended_holds T.threads n) (ap (λ (x : ℕ). has x (ended_set T.threads n)) (eqb-true n u.name e)
        ∙ (ending_forgets n T).threads u m))
    go u m false e = e

-- dispatch brings nobody
dispatch_live : (n : ℕ) (o : Outcome) → live n (dispatch o).tables ≡ live n o.tables
unfolding change
dispatch_live n o = by_dispatch (λ (U : Tables). live n U ≡ live n o.tables) o (λ _ _ _. refl) (λ _ _. refl)
    (λ x q _ _. turned_live (named x) (in_state Running Nothing) (λ t. refl) n o.tables.threads)

-- If the entry is set or gone the requester ends: nobody has its name after the event.
pub second_manager_ends : (L : Limits) (T : Tables) (bytes : List ℕ) (k : TrapKind) (x : ℕ) → Accepted L T bytes (SetManager k x) →
    entry k (requester T) T.threads ≢ Unset → live (requester T) (step L T bytes).tables ≡ false
unfolding serve set_over
second_manager_ends L T bytes k x A d = ap (λ s. live (requester T) s.tables) (served A)
    ∙ dispatch_live (requester T) (serve (requester T) T (SetManager k x)) ∙ go (entry k (requester T) T.threads) d
  where
    go : (g : Manager) → g ≢ Unset → live (requester T) (set_over g (requester T) k x T).tables ≡ false
    go Unset h = absurd (h refl)
    go (Set y) h = ended_is_dead (requester T) T
    go Gone h = ended_is_dead (requester T) T

-- a look-up in threads of which those of a name were changed
module _ {B : Type 0} (d : B) (n : ℕ) (g : Thread → Thread) (same : (t : Thread) → (g t).name ≡ t.name) where
  of_changed : (f : Thread → B) (ts : List Thread) → of_thread d f n (map (turned (named n) g) ts) ≡ of_thread d (λ t. f (g t)) n ts
  unfolding of_thread
  of_changed f [] = refl
  of_changed f (t ∷ ts) = rw (turned_name (named n) g same t) (go (named n t) (of_changed f ts))
    where
      go : (b : Bool) → of_thread d f n (map (turned (named n) g) ts) ≡ of_thread d (λ u. f (g u)) n ts →
          (if b then f (if b then g t else t) else of_thread d f n (map (turned (named n) g) ts))
          ≡ (if b then f (g t) else of_thread d (λ u. f (g u)) n ts)
      go true later = refl
      go false later = later

  of_unchanged : (f : Thread → B) (m : ℕ) → m ≢ n → (ts : List Thread) → of_thread d f m (map (turned (named n) g) ts) ≡ of_thread d f m ts
  unfolding of_thread
  of_unchanged f m e [] = refl
  of_unchanged f m e (t ∷ ts) = rw (turned_name (named n) g same t) (go (named m t) refl (of_unchanged f m e ts))
    where
      go : (b : Bool) → named m t ≡ b → of_thread d f m (map (turned (named n) g) ts) ≡ of_thread d f m ts →
          (if b then f (turned (named n) g t) else of_thread d f m (map (turned (named n) g) ts)) ≡ (if b then f t else of_thread d f m ts)
      go true i later = rw (ne_eqb n t.name (λ j. e (eqb-true m t.name i ∙ sym j)))
      go false i later = later

  of_same : (f h : Thread → B) → ((t : Thread) → f t ≡ h t) → (ts : List Thread) → of_thread d f n ts ≡ of_thread d h n ts
  unfolding of_thread
  of_same f h e [] = refl
  of_same f h e (t ∷ ts) = ap₂ (λ (x y : B). if named n t then x else y) (e t) (of_same f h e ts)

  of_const : (c : B) (ts : List Thread) → any (named n) ts ≡ true → of_thread d (λ t. c) n ts ≡ c
  unfolding of_thread any
  of_const c [] l = absurd (false≢true l)
  of_const c (t ∷ ts) l = go (named n t) l (of_const c ts)
    where
      go : (b : Bool) → (b || any (named n) ts) ≡ true → (any (named n) ts ≡ true → of_thread d (λ u. c) n ts ≡ c) →
          (if b then c else of_thread d (λ u. c) n ts) ≡ c
      go true i later = refl
      go false i later = later i

entry_set : (k : TrapKind) (m : Manager) (g : Managers) → manager k (set_entry k m g) ≡ m
unfolding manager set_entry
entry_set Program m g = refl
entry_set Tlb m g = refl
entry_set SysBp m g = refl

entry_other : (j k : TrapKind) (m : Manager) (g : Managers) → j ≢ k → manager j (set_entry k m g) ≡ manager j g
unfolding manager set_entry
entry_other Program Program m g d = absurd (d refl)
entry_other Program Tlb m g d = refl
entry_other Program SysBp m g d = refl
entry_other Tlb Program m g d = refl
entry_other Tlb Tlb m g d = absurd (d refl)
entry_other Tlb SysBp m g d = refl
entry_other SysBp Program m g d = refl
entry_other SysBp Tlb m g d = refl
entry_other SysBp SysBp m g d = absurd (d refl)

-- the threads with one entry set
abbrev pub put : TrapKind → ℕ → ℕ → Tables → Tables
put k x m T = with_threads (map (turned (named m) (λ t. with_managers (set_entry k (Set x) t.managers) t)) T.threads) T

module _ (k : TrapKind) (x m : ℕ) (T : Tables) where
  g : Thread → Thread
  g t = with_managers (set_entry k (Set x) t.managers) t

  pub put_sets : live m T ≡ true → entry k m (put k x m T).threads ≡ Set x
  unfolding g
  put_sets l =
      of_changed Unset m g (λ t. refl) (λ t. manager k t.managers) T.threads
      ∙ of_same Unset m g (λ t. refl) _ (λ t. Set x) (λ t. entry_set k (Set x) t.managers) T.threads
      ∙ of_const Unset m g (λ t. refl) (Set x) T.threads l

  pub put_keeps : (j : TrapKind) (n : ℕ) → (n ≢ m) ⊎ (j ≢ k) → entry j n (put k x m T).threads ≡ entry j n T.threads
  unfolding g
  put_keeps j n (inl d) = of_unchanged Unset m g (λ t. refl) (λ t. manager j t.managers) n d T.threads
  put_keeps j n (inr d) = ⊎_elim
      (λ i. rw i.0 (of_changed Unset m g (λ t. refl) (λ t. manager j t.managers) T.threads
      ∙ of_same Unset m g (λ t. refl) _ _ (λ t. entry_other j k (Set x) t.managers d) T.threads))
      (λ i. of_unchanged Unset m g (λ t. refl) (λ t. manager j t.managers) n i.0 T.threads)
      (same? n m)

-- If the entry is unset it is set to the name, and the requester is handed 0. Every other entry, and everything but the threads, is as
-- it was.
pub first_manager_is_set : (L : Limits) (T : Tables) (bytes : List ℕ) (k : TrapKind) (x : ℕ) → table_rules L T ≡ true →
    Accepted L T bytes (SetManager k x) →
    entry k (requester T) T.threads ≡ Unset →
    ((step L T bytes).decision.answer ≡ Result 0)
    × (entry k (requester T) (step L T bytes).tables.threads ≡ Set x)
    × ((j : TrapKind) (n : ℕ) → (n ≢ requester T) ⊎ (j ≢ k) → entry j n (step L T bytes).tables.threads ≡ entry j n T.threads)
    × (with_threads T.threads (step L T bytes).tables ≡ T)
unfolding serve set_over change
first_manager_is_set L T bytes k x R A e =
    let s = goes_on A (put k x (requester T) T handing Result 0) (ap (λ g. set_over g (requester T) k x T) e) refl in
    let C = call A in
    let l = ap (λ n. live n T) C.caller ∙ runner_live (tested_ruled L T R).inv C.name C.slice C.runner in (
      ap (λ y. y.decision.answer) s,
      ap (λ y. entry k (requester T) y.tables.threads) s ∙ put_sets k x (requester T) T l,
      λ j n d. ap (λ y. entry j n y.tables.threads) s ∙ put_keeps k x (requester T) T j n d,
      ap (λ y. with_threads T.threads y.tables) s,
    )

-- ---- "1 CREATEBROTHER and 2 CREATESON (result: the name; no managers, count 0)"

pub made : (L : Limits) (T : Tables) (p : Parent) → L.threads < names → table_rules L T ≡ true →
    Made p T (create p T).tables (create p T).answer
unfolding create
made L T p l R =
    let I = (tested_ruled L T R).inv in
    record {
      thread = n;
      there = insert_new _ n T.threads;
      told = refl;
      new = name_free L T l I.last I.few;
      parent = refl;
      state = refl;
      managers = none;
      ticks = refl;
      answer = refl;
      others = λ t m. insert_old _ n T.threads m;
      only = λ t m. mem_insert _ n T.threads m;
    }
  where
    n : Thread
    n = new_thread (next_name T) p Ready

    none : (k : TrapKind) → manager k n.managers ≡ Unset
    none Program = unfold manager in refl
    none Tlb = unfold manager in refl
    none SysBp = unfold manager in refl

module _ (L : Limits) (T : Tables) (bytes : List ℕ) (l : L.threads < names) (R : table_rules L T ≡ true) where
  -- A brother has its requester's parent.
  pub brother_has_the_parent : Accepted L T bytes CreateBrother → (r : Thread) → Memᴰ r T.threads → r.name ≡ requester T →
      Made r.parent T (step L T bytes).tables (step L T bytes).decision.answer
  unfolding serve
  brother_has_the_parent A r m e =
      let q = of_only NoParent (λ t. t.parent) (requester T) T.threads ((tested_ruled L T R).inv.agree.once (requester T)) r m e in
      let s = goes_on A (create r.parent T) (ap (λ p. create p T) q) (unfold create in refl) in
      subst (λ (x : Stepped). Made r.parent T x.tables x.decision.answer) (sym s) (made L T r.parent l R)

  -- A son has its requester as parent.
  pub son_has_the_requester : Accepted L T bytes CreateSon →
      Made (ParentIs (requester T)) T (step L T bytes).tables (step L T bytes).decision.answer
  unfolding serve
  son_has_the_requester A =
      let s = goes_on A (create (ParentIs (requester T)) T) refl (unfold create in refl) in
      subst (λ (x : Stepped). Made (ParentIs (requester T)) T x.tables x.decision.answer) (sym s)
      (made L T (ParentIs (requester T)) l R)
