-- What comes of a thread that is made and ended at once: the tables are as before, but for the name given last.
use Rattle.std.proofs.Common.{if◌then◌else◌, ◌==◌}
use Prim.Native.Nat.{ℕ, ◌<◌}
use mathlib.Core.Path.{◌≡◌, refl, sym, ap, ◌∙◌}
use mathlib.Core.Bool.{Bool, true, false, ◌||◌, not, false≢true, not-eq-not}
use mathlib.Core.List.{List, [], ◌∷◌, map, append-nil, Memᴰ}
use native.Mathlib.Omega.{arith}
use lib.Dec.{ltb}
use lib.ListN.{length}
use borrow.Author.Tests.{eqb-true, ne_eqb, lt-leb}
use Rattle.rules.specs.Lists.{one_if, any, has, keep, count}
use Rattle.rules.specs.Numbers.{names}
use Rattle.laws.specs.Words.{Limits}
use Rattle.rules.specs.Words.{by_parent, by_manager, by_runner}
use Rattle.rules.specs.Tables.{Tables, with_last, live, new_thread, manager, runs, me}
use Rattle.rules.specs.States.{trapped_on, awaits}
use Rattle.rules.specs.Waking.{◌handing◌, wake_those}
use Rattle.rules.specs.Ending.{depends, ended_set, gone_if, without_managers, remove, misses, release, end}
use Rattle.rules.specs.Requests.{next_name, create, terminate}
use Rattle.rules.specs.Dispatch.{status}
use Rattle.rules.specs.Refusals.{first_of, over, is_malformed, needs_runner, ends_nobody, call_rules, own_rules, refusal}
use Rattle.rules.specs.Events.{decode}
use Rattle.rules.specs.Step.{serve, decided, step}
use Rattle.rules.specs.Runs.{run}
use Rattle.rules.specs.Benches.{ask}
use Rattle.rules.specs.TableRules.{table_rules}
use Rattle.laws.specs.Words.{TrapKind, Program, Tlb, SysBp, State, Running, Ready, Receiving, Clock, Device, Trapped, Nothing}
use Rattle.laws.specs.Words.{Manager, Unset, Set, Gone, Managers, Parent, NoParent, ParentIs, Thread, Runner, NoRunner, Runs, Named}
use Rattle.laws.specs.Words.{Call, CreateSon, Terminate, ByRunner}
use Rattle.laws.specs.Types.{Ruled}
use Rattle.laws.specs.Ending.{Forgotten}
use Rattle.laws.specs.Requests.{Accepted}
use Rattle.laws.specs.Comings.{creates}
use Rattle.laws.specs.Givings.{result, given_by, givings}
use Rattle.laws.proofs.Tests.{clash, and_false}
use Rattle.laws.proofs.Tally.{count_insert, none_count, none_any, map_same}
use Rattle.laws.proofs.Members.{member_has}
use Rattle.laws.proofs.Names.{name_low, name_free}
use Rattle.laws.proofs.Closure.{joins, rests}
use Rattle.laws.proofs.Ending.{freed, missed}
use Rattle.laws.proofs.EndingKept.{entry_stays}
use Rattle.laws.proofs.Sound.{tested_ruled}
use Rattle.laws.proofs.Inboxes.{keep_append, keep_none_of, keep_insert}
use Rattle.laws.proofs.Rounds.{stops}
use Rattle.laws.proofs.Requests.{goes_on, kept_all}
use Rattle.laws.proofs.Said.{requests_say, naming_requests_say}
use Rattle.laws.proofs.Comings.{created_lives}
use Rattle.laws.proofs.Living.{ruled_names_the_living, named_nowhere}

-- ---- where no name of a set stands in the tables, nobody is concerned, and their ending changes nothing

-- an entry that is set to a name
entry_names : (x : ℕ) (m : Manager) → by_manager false (λ y. x == y) m ≡ true → m ≡ Set x
entry_names x Unset e = absurd (false≢true e)
entry_names x (Set y) e = ap Set (sym (eqb-true x y e))
entry_names x Gone e = absurd (false≢true e)

-- who is trapped on a name has it as a manager
trapped_entry : (x : ℕ) (g : Managers) (s : State) → trapped_on x g s ≡ true → (k : TrapKind) × (manager k g ≡ Set x)
unfolding trapped_on
trapped_entry x g Running e = absurd (false≢true e)
trapped_entry x g Ready e = absurd (false≢true e)
trapped_entry x g (Receiving w) e = absurd (false≢true e)
trapped_entry x g Clock e = absurd (false≢true e)
trapped_entry x g (Device d) e = absurd (false≢true e)
trapped_entry x g (Trapped k) e = (k, entry_names x (manager k g) e)

-- what no test hits is kept
kept : {A : Type 0} (p : A → Bool) (l : List A) → ((x : A) → Memᴰ x l → p x ≡ false) → keep (λ x. not (p x)) l ≡ l
kept p l h = kept_all p l (none_count p l (none_any p l h))

module _ {set : List ℕ} {T : Tables} (F : Forgotten set T) where
  module _ (t : Thread) (m : Memᴰ t T.threads) where
    -- nobody depends on them
    independent : depends set t ≡ false
    independent =
        rw (parent t.parent refl) (none_any (λ x. awaits x t) set (λ x i. (not-eq-not {b = false}).0 (trapped x (member_has set i))))
      where
        parent : (p : Parent) → t.parent ≡ p → by_parent false (λ x. has x set) p ≡ false
        parent NoParent e = refl
        parent (ParentIs p) e = F.parents t m p e

        trapped : (x : ℕ) → has x set ≡ true → awaits x t ≡ true → ⊥
        trapped x h e = let r = trapped_entry x t.managers t.state e in clash h (F.managers t m r.0 x r.1)

    manager_stays : (k : TrapKind) → gone_if set (manager k t.managers) ≡ manager k t.managers
    manager_stays k = entry_stays set (manager k t.managers) (λ x e. F.managers t m k x (entry_names x (manager k t.managers) e))

    managers_stay : without_managers set t ≡ t
    unfolding without_managers manager
    managers_stay =
        let p : gone_if set t.managers.program ≡ t.managers.program = manager_stays Program in
        let q : gone_if set t.managers.tlb ≡ t.managers.tlb = manager_stays Tlb in
        let r : gone_if set t.managers.sysbp ≡ t.managers.sysbp = manager_stays SysBp in
        rw (p, q, r)

    not_missing : misses set t.state ≡ false
    not_missing = (not-eq-not {b = false}).0 (λ e. let r = missed set t.state e in clash r.2 (F.wanted t m r.0 r.1))

  same_threads : map (without_managers set) (keep (λ t. not (has t.name set)) T.threads) ≡ T.threads
  same_threads = ap (map (without_managers set)) (kept (λ t. has t.name set) T.threads F.threads)
      ∙ map_same (without_managers set) T.threads managers_stay

  same_runner : by_runner NoRunner (λ n s. if has n set then NoRunner else Runs n s) T.runner ≡ T.runner
  same_runner = go T.runner refl
    where
      go : (r : Runner) → T.runner ≡ r → by_runner NoRunner (λ n s. if has n set then NoRunner else Runs n s) r ≡ r
      go NoRunner e = refl
      go (Runs n s) e = rw (F.runner n s e)

  -- nothing is removed
  unremoved : remove set T ≡ T
  unfolding remove
  unremoved =
      let r = same_runner in
      let t = same_threads in
      let q = kept (λ n. has n set) T.ready F.ready in
      let c = kept (λ n. has n set) T.clock F.clock in
      let m = kept (λ m. has m.to set || has m.from set) T.messages (λ m i. rw (F.receivers m i, F.senders m i)) in
      rw (r, t, q, c, m)

  -- and nobody is told of an end
  unreleased : release set T ≡ T
  unfolding release wake_those
  unreleased =
      let t = map_same (freed set) T.threads (λ t m. rw (not_missing t m)) in
      let n = keep_none_of (λ t. misses set t.state) T.threads not_missing in
      rw (t, n, append-nil T.ready)

-- ---- the newcomer ends alone

-- the newcomer, and the tables with it
abbrev son : ℕ → Tables → Thread
son m T = new_thread (next_name T) (ParentIs m) Ready

abbrev with_son : ℕ → Tables → Tables
with_son m T = (create (ParentIs m) T).tables

module _ {L : Limits} {T : Tables} (l : L.threads < names) (R : Ruled L T) (m : ℕ) where
  abbrev n : ℕ
  n = next_name T

  -- its name is in no place of the tables before
  new_name : Forgotten (n ∷ []) T
  unfolding any
  new_name = named_nowhere (ruled_names_the_living L T R) (n ∷ [])
      (λ x h. rw (ne_eqb x n (λ e. clash h (ap (λ y. live y T) e ∙ name_free L T l R.inv.last R.inv.few))))

  n_ends : has n (n ∷ []) ≡ true
  n_ends = member_has (n ∷ []) (Memᴰ.head refl)

  -- so nobody ends with it
  ends_alone : ended_set (with_son m T).threads n ≡ n ∷ []
  unfolding ended_set create
  ends_alone = stops (with_son m T).threads (n ∷ []) (rests (with_son m T).threads (n ∷ []) none) (length (with_son m T).threads)
    where
      itself : joins (n ∷ []) (son m T) ≡ false
      itself = rw n_ends (and_false (depends (n ∷ []) (son m T)))

      others : count (joins (n ∷ [])) T.threads ≡ 0
      others = none_count (joins (n ∷ [])) T.threads (none_any (joins (n ∷ [])) T.threads (λ t i. rw (independent new_name t i)))

      none : count (joins (n ∷ [])) (with_son m T).threads ≡ 0
      none = count_insert (joins (n ∷ [])) (λ t. ltb t.name n) (son m T) T.threads ∙ omega (arith, ap one_if itself, others)

  -- and without it the tables are as they were
  son_removed : remove (n ∷ []) (with_son m T) ≡ with_last n (remove (n ∷ []) T)
  unfolding remove create
  son_removed =
      let t = keep_insert (λ t. not (has t.name (n ∷ []))) (λ t. ltb t.name n) (son m T) T.threads (ap not n_ends) in
      let q = keep_append (λ x. not (has x (n ∷ []))) T.ready (n ∷ []) in
      let e = keep_none_of (λ x. not (has x (n ∷ []))) (n ∷ []) (λ x i. ap not (member_has (n ∷ []) i)) in
      rw (t, q, e, append-nil)

  no_trace : end n (with_son m T) ≡ with_last n T
  unfolding end release wake_those
  no_trace =
      ap (λ x. release x (remove x (with_son m T))) ends_alone
      ∙ ap (release (n ∷ [])) (son_removed ∙ ap (with_last n) (unremoved new_name))
      ∙ ap (with_last n) (unreleased new_name)

-- ---- the two requests

-- of a call of the runner its own rules decide
heard : (L : Limits) (T : Tables) (m s : ℕ) → T.runner ≡ Runs m s → (c : Call) → refusal L T (ByRunner c) ≡ first_of (call_rules L T m c)
unfolding refusal first_of over is_malformed needs_runner own_rules runs me status
heard L T m s e c = rw e

says_end : (T : Tables) → decode (ask 3 (next_name T)) ≡ ByRunner (Terminate (Named (next_name T)))
says_end T = (naming_requests_say (next_name T) (omega (arith, name_low T))).0 (λ e. omega (arith, name_low T))

module _ (L : Limits) (T : Tables) (m s : ℕ) (e : T.runner ≡ Runs m s) (room : length T.threads < L.threads) where
  first : step L T (ask 2 0) ≡ decided 0 (create (ParentIs m) T)
  unfolding serve me
  first = goes_on asked (create (ParentIs m) T) (ap (λ r. create (ParentIs (me r)) T) e) (unfold create in refl)
    where
      free : first_of (call_rules L T m CreateSon) ≡ 0
      free = unfold call_rules first_of in rw (lt-leb L.threads (length T.threads) room)

      asked : Accepted L T (ask 2 0) CreateSon
      asked = record { asked = requests_say.1; accepted = ap (refusal L T) requests_say.1 ∙ heard L T m s e CreateSon ∙ free }

  -- A son is made where there is room for it, and its name is given.
  pub son_is_made : ((step L T (ask 2 0)).tables ≡ (create (ParentIs m) T).tables) × (given_by L T (ask 2 0) ≡ next_name T ∷ [])
  unfolding given_by result creates create
  son_is_made = (ap (λ x. x.tables) first, rw (first, requests_say.1))

  second : L.threads < names → table_rules L T ≡ true →
      step L (with_son m T) (ask 3 (next_name T)) ≡ decided 0 (with_last (next_name T) T handing Nothing)
  unfolding serve terminate
  second l h = goes_on asked (with_last n T handing Nothing) (ap (λ U. U handing Nothing) (no_trace l (tested_ruled L T h) m))
      (unfold create in refl)
    where
      n : ℕ
      n = next_name T

      free : first_of (call_rules L (with_son m T) m (Terminate (Named n))) ≡ 0
      free = unfold call_rules first_of ends_nobody in rw (created_lives (ParentIs m) T)

      asked : Accepted L (with_son m T) (ask 3 n) (Terminate (Named n))
      asked = record {
        asked = says_end T;
        accepted = ap (refusal L (with_son m T)) (says_end T)
            ∙ heard L (with_son m T) m s (unfold create in e) (Terminate (Named n)) ∙ free;
      }

-- ---- the laws

-- A thread that is made and ended at once leaves no trace but the name given last.
pub made_and_ended_leaves_no_trace : (L : Limits) (T : Tables) → L.threads < names → table_rules L T ≡ true → (m s : ℕ) →
    T.runner ≡ Runs m s → length T.threads < L.threads →
    run L T (ask 2 0 ∷ ask 3 (next_name T) ∷ []) ≡ with_last (next_name T) T
unfolding run
made_and_ended_leaves_no_trace L T l h m s e room =
    ap (λ x. (step L x.tables (ask 3 (next_name T))).tables) (first L T m s e room)
    ∙ ap (λ x. x.tables) (second L T m s e room l h)

-- Its name is the only one that is given.
pub made_and_ended_gives_its_name : (L : Limits) (T : Tables) → L.threads < names → table_rules L T ≡ true → (m s : ℕ) →
    T.runner ≡ Runs m s → length T.threads < L.threads →
    givings L T (ask 2 0 ∷ ask 3 (next_name T) ∷ []) ≡ next_name T ∷ []
unfolding givings given_by result creates create
made_and_ended_gives_its_name L T l h m s e room = rw (first L T m s e room, requests_say.1, second L T m s e room l h, says_end T)
