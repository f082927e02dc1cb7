-- What an ending leaves: nothing names a member of the ended set any more, and who is no member is as before.
use Rattle.std.proofs.Common.{if◌then◌else◌}
use Prim.Native.Nat.{ℕ}
use mathlib.Core.Path.{◌≡◌, refl, sym, ap, ◌∙◌, subst}
use mathlib.Core.Logic.{⊎_elim}
use mathlib.Core.Bool.{Bool, true, false, ◌||◌, not, false≢true}
use mathlib.Core.List.Memᴰ
use mathlib.Core.List.{List, map, Memᴰ}
use native.Mathlib.Omega.{arith}
use Rattle.rules.specs.Lists.{keep, has}
use Rattle.rules.specs.Words.{by_parent, by_runner}
use Rattle.rules.specs.Tables.{Tables, in_state, manager}
use Rattle.rules.specs.States.{awaits}
use Rattle.rules.specs.Waking.{wake_those}
use Rattle.rules.specs.Ending.{ended_set, gone_if, without_managers, remove, misses, told_gone, release, end}
use Rattle.laws.specs.Words.{Anybody, Only, TrapKind, Program, Tlb, SysBp, State, Running, Ready, Receiving, Clock, Device, Trapped}
use Rattle.laws.specs.Words.{SenderGone, Manager, Unset, Set, Gone, Managers, ParentIs, Thread, Message, Runner, NoRunner, Runs}
use Rattle.laws.specs.Ending.{Forgotten, Survives}
use Rattle.laws.specs.Closure.{Closed}
use Rattle.laws.proofs.Tests.{by_if, clash, or_false, not_true}
use Rattle.laws.proofs.Members.{mem_keep, keep_mem, mem_map, map_mem}
use Rattle.laws.proofs.Threads.{left}
use Rattle.laws.proofs.Closure.{ended_set_closed}

-- ---- the threads that stay, for any set

module _ (set : List ℕ) where
  abbrev pub freed : Thread → Thread
  freed t = if misses set t.state then in_state Ready (told_gone t.state) t else t

  abbrev pub stay : List Thread → List Thread
  stay ts = map freed (map (without_managers set) (left set ts))

  abbrev pub stay_messages : List Message → List Message
  stay_messages ms = keep (λ m. not (has m.to set || has m.from set)) ms

  abbrev pub gone_all : Managers → Managers
  gone_all g = record { program = gone_if set g.program; tlb = gone_if set g.tlb; sysbp = gone_if set g.sysbp }

  pub gone_manager : (k : TrapKind) (g : Managers) → manager k (gone_all g) ≡ gone_if set (manager k g)
  unfolding manager
  gone_manager Program g = refl
  gone_manager Tlb g = refl
  gone_manager SysBp g = refl

  -- who misses a member receives from it
  pub missed : (s : State) → misses set s ≡ true → (n : ℕ) × (s ≡ Receiving (Only n)) × (has n set ≡ true)
  unfolding misses
  missed Running e = absurd (false≢true e)
  missed Ready e = absurd (false≢true e)
  missed (Receiving Anybody) e = absurd (false≢true e)
  missed (Receiving (Only n)) e = (n, refl, e)
  missed Clock e = absurd (false≢true e)
  missed (Device d) e = absurd (false≢true e)
  missed (Trapped k) e = absurd (false≢true e)

  pub receiver_misses : {s : State} (n : ℕ) → s ≡ Receiving (Only n) → misses set s ≡ has n set
  unfolding misses
  receiver_misses n e = ap (misses set) e

  receiver_told : {s : State} (n : ℕ) → s ≡ Receiving (Only n) → told_gone s ≡ SenderGone n
  unfolding told_gone
  receiver_told n e = ap told_gone e

  pub survives : (t : Thread) → Survives set t (freed (without_managers set t))
  unfolding without_managers
  survives t =
      by_if (λ (u : Thread). Survives set t u) (misses set t.state)
      (λ e.
      let r = missed t.state e in
      record {
        name = refl;
        parent = refl;
        ticks = refl;
        managers = λ k. gone_manager k t.managers;
        same = λ h. absurd (clash r.2 (h r.0 r.1));
        told = λ n i h. (refl, receiver_told n i);
      })
      (λ e.
      record {
        name = refl;
        parent = refl;
        ticks = refl;
        managers = λ k. gone_manager k t.managers;
        same = λ h. (refl, refl);
        told = λ n i h. absurd (clash h (sym (receiver_misses n i) ∙ e));
      })

  -- where a thread that stays comes from
  pub origin : (ts : List Thread) (u : Thread) → Memᴰ u (stay ts) → (t : Thread) × Memᴰ t ts × (has t.name set ≡ false)
      × (u ≡ freed (without_managers set t)) × Survives set t u
  origin ts u m =
      let a = mem_map freed (map (without_managers set) (left set ts)) m in
      let b = mem_map (without_managers set) (left set ts) a.1 in
      let c = mem_keep (λ t. not (has t.name set)) ts b.1 in
      let e : u ≡ freed (without_managers set b.0) = a.2 ∙ ap freed b.2 in
      (b.0, c.0, not_true _ c.1, e, subst (λ (x : Thread). Survives set b.0 x) (sym e) (survives b.0))

  -- a thread that is no member stays
  pub lasting : (ts : List Thread) (t : Thread) → Memᴰ t ts → has t.name set ≡ false →
      Memᴰ (freed (without_managers set t)) (stay ts)
  lasting ts t m o =
      map_mem freed _ (map_mem (without_managers set) (left set ts) (keep_mem (λ u. not (has u.name set)) ts m (ap not o)))

  -- ---- what the parts no longer name

  set_left : (m : Manager) (n : ℕ) → gone_if set m ≡ Set n → has n set ≡ false
  unfolding gone_if
  set_left Unset n e = let z : ◌≡◌ {A = ℕ} 0 1 = cc in absurd (omega arith)
  set_left (Set m) n e = go (has m set) refl e
    where
      go : (b : Bool) → has m set ≡ b → (if b then Gone else Set m) ≡ Set n → has n set ≡ false
      go true h i = let z : ◌≡◌ {A = ℕ} 0 1 = cc in absurd (omega arith)
      go false h i = let j : m ≡ n = cc in rw j at h
  set_left Gone n e = let z : ◌≡◌ {A = ℕ} 0 1 = cc in absurd (omega arith)

  runner_left : (r : Runner) (n s : ℕ) → by_runner NoRunner (λ m z. if has m set then NoRunner else Runs m z) r ≡ Runs n s →
      has n set ≡ false
  runner_left NoRunner n s e = let z : ◌≡◌ {A = ℕ} 0 1 = cc in absurd (omega arith)
  runner_left (Runs m z) n s e = go (has m set) refl e
    where
      go : (b : Bool) → has m set ≡ b → (if b then NoRunner else Runs m z) ≡ Runs n s → has n set ≡ false
      go true h i = let z : ◌≡◌ {A = ℕ} 0 1 = cc in absurd (omega arith)
      go false h i = let j : m ≡ n = cc in rw j at h

  -- a thread that stays receives from no member
  wanted_left : (t u : Thread) → Survives set t u → (n : ℕ) → u.state ≡ Receiving (Only n) → has n set ≡ false
  wanted_left t u S n e = go (misses set t.state) refl
    where
      go : (b : Bool) → misses set t.state ≡ b → has n set ≡ false
      go true h = let r = missed t.state h in let w = S.told r.0 r.1 r.2 in let z : ◌≡◌ {A = ℕ} 0 1 = cc w.0 in
          absurd (omega arith)
      go false h = let w = S.same (λ m i. sym (receiver_misses m i) ∙ h) in sym (receiver_misses n (sym w.0 ∙ e)) ∙ h

  -- a name that is kept is no member's
  kept_left : (l : List ℕ) (x : ℕ) → Memᴰ x (keep (λ y. not (has y set)) l) → has x set ≡ false
  kept_left l x m = not_true _ (mem_keep (λ y. not (has y set)) l m).1

  -- nor is that of a thread that is told of an end
  woken_left : (ts : List Thread) (x : ℕ) →
      Memᴰ x (map (λ t. t.name) (keep (λ t. misses set t.state) (map (without_managers set) (left set ts)))) → has x set ≡ false
  unfolding without_managers
  woken_left ts x m =
      let a = mem_map (λ (t : Thread). t.name) (keep (λ t. misses set t.state) (map (without_managers set) (left set ts))) m in
      let b = mem_map (without_managers set) (left set ts)
      (mem_keep (λ t. misses set t.state) (map (without_managers set) (left set ts)) a.1).0 in
      let e : x ≡ b.0.name = a.2 ∙ ap (λ (t : Thread). t.name) b.2 in
      ap (λ (y : ℕ). has y set) e ∙ not_true _ (mem_keep (λ t. not (has t.name set)) ts b.1).1

  pub message_left : (ms : List Message) (m : Message) → Memᴰ m (stay_messages ms) → Memᴰ m ms × (has m.to set ≡ false)
      × (has m.from set ≡ false)
  message_left ms m i = let k = mem_keep (λ x. not (has x.to set || has x.from set)) ms i in
      let o = or_false (has m.to set) _ (not_true _ k.1) in (k.0, o.0, o.1)

  -- what stays has no member as parent and is trapped on none
  module _ {ts : List Thread} (C : Closed (λ x. has x set) ts) (t : Thread) (m : Memᴰ t ts) (o : has t.name set ≡ false) where
    pub parent_left : (p : ℕ) → t.parent ≡ ParentIs p → has p set ≡ false
    parent_left p e = out (has p set) refl
      where
        out : (b : Bool) → has p set ≡ b → has p set ≡ false
        out true h = absurd (clash (C.children t m (ap (by_parent false (λ x. has x set)) e ∙ h)) o)
        out false h = h

    pub awaited_left : (x : ℕ) → awaits x t ≡ true → has x set ≡ false
    awaited_left x e = out (has x set) refl
      where
        out : (b : Bool) → has x set ≡ b → has x set ≡ false
        out true h = absurd (clash (C.trapped t m x e h) o)
        out false h = h

-- ---- the laws

-- Every thread after an ending was there before it, is no member of the ended set, and is what has become of it.
pub origins : (n : ℕ) (T : Tables) (u : Thread) → Memᴰ u (end n T).threads →
    (t : Thread) × Memᴰ t T.threads × (has t.name (ended_set T.threads n) ≡ false) × Survives (ended_set T.threads n) t u
unfolding end release remove wake_those
origins n T u m = let r = origin (ended_set T.threads n) T.threads u m in (r.0, r.1, r.2, r.4)

-- A thread that is no member is still there after the ending, with the same name, parent and tick count and, unless it was
-- receiving from a member, in the same state with the same answer.
pub survivors : (n : ℕ) (T : Tables) (t : Thread) → Memᴰ t T.threads → has t.name (ended_set T.threads n) ≡ false →
    (u : Thread) × Memᴰ u (end n T).threads × Survives (ended_set T.threads n) t u
unfolding end release remove wake_those
survivors n T t m o = let set =
    ended_set T.threads n in (freed set (without_managers set t), lasting set T.threads t m o, survives set t)

-- After an ending no place of the tables names a member of the ended set.
pub ending_forgets : (n : ℕ) (T : Tables) → Forgotten (ended_set T.threads n) (end n T)
ending_forgets n T = let set = ended_set T.threads n in record {
  threads = λ u m. let r = origins n T u m in ap (λ (x : ℕ). has x set) r.3.name ∙ r.2;
  parents = λ u m p e. let r = origins n T u m in
      parent_left set (ended_set_closed T.threads n) r.0 r.1 r.2 p (sym r.3.parent ∙ e);
  wanted = λ u m x e. let r = origins n T u m in wanted_left set r.0 u r.3 x e;
  managers = λ u m k x e. let r = origins n T u m in set_left set _ x (sym (r.3.managers k) ∙ e);
  senders = λ x m. (message_left set T.messages x (unfold end release remove wake_those in m)).2;
  receivers = λ x m. (message_left set T.messages x (unfold end release remove wake_those in m)).1;
  ready = λ x m. unfold end release remove wake_those in
      ⊎_elim (kept_left set T.ready x) (woken_left set T.threads x) (Memᴰ.append_cases _ m);
  clock = λ x m. kept_left set T.clock x (unfold end release remove wake_those in m);
  runner = λ x s e. runner_left set T.runner x s (unfold end release remove wake_those in e);
}
