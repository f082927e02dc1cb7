-- A dump has no fault: none of the four lists of faults of Faults.antt has an offset for the dump of tables that meet the rules.
use Rattle.std.proofs.Common.{◌==◌}
use Prim.Native.Nat.{ℕ, ◌≤◌, ◌<◌}
use mathlib.Core.Path.{◌≡◌, refl, sym, ap, ◌∙◌, subst}
use mathlib.Core.Logic.{⊎_elim}
use mathlib.Core.Bool.{Bool, true, false, ◌&&◌, not}
use mathlib.Core.List.Memᴰ
use mathlib.Core.List.{List, [], ◌∷◌, ◌++◌, map, Memᴰ}
use native.Mathlib.Omega.{arith}
use lib.Dec.{leb, ltb}
use lib.ListN.{length}
use borrow.Author.Tests.{eq-eqb, le-leb, lt-ltb, ltb-true}
use Rattle.rules.specs.Lists.{all, any, has, times_in, number, four_bytes}
use Rattle.rules.specs.Numbers.{names, full_slice, beat_ticks, devices, wrap}
use Rattle.laws.specs.Words.{Limits}
use Rattle.rules.specs.Words.{by_state, by_wanted, by_parent, by_runner}
use Rattle.rules.specs.Tables.{Tables, live, manager, me}
use Rattle.rules.specs.States.{is_ready, on_clock}
use Rattle.rules.specs.Dispatch.{status}
use Rattle.rules.specs.Tags.{dump_facts_in, dump_facts}
use Rattle.rules.specs.Codes.{status_code, slice_code, answer_numbers, state_numbers, parent_code, message_code}
use Rattle.rules.specs.TableRules.{state_in_range, answer_in_range, manager_set, table_rules}
use Rattle.rules.specs.Fields.{complete}
use Rattle.rules.specs.Dump.{head_value, thread_value, message_value, held_value, dump}
use Rattle.rules.specs.Load.{Field, fields_of, at, runner_from, parent_from, state_from, answer_from, thread_from}
use Rattle.rules.specs.Faults.{Placed, placed, wrong_length, ends_badly, faults_15, faults_16, is_name, status_fits, runner_fits}
use Rattle.rules.specs.Faults.{state_fits, answer_fits, head_fits, thread_fits, message_fits, value_fits, out_of_range, faults_17}
use Rattle.rules.specs.Faults.{entry_lives, wanted_lives, head_lives, thread_lives, message_lives, value_lives, names_nobody, faults_18}
use Rattle.laws.specs.Words.{TrapKind, Program, Tlb, SysBp, State, Running, Ready, Receiving, Clock, Device, Trapped, Answer, Nothing}
use Rattle.laws.specs.Words.{FromMessage, FromNotice, SenderGone, Result, Anybody, Only, Manager, Unset, Set, Gone, Managers, Parent}
use Rattle.laws.specs.Words.{NoParent, ParentIs, Thread, Message, Held, Runner, NoRunner, Runs, Status, Working, Idle, Halted}
use Rattle.laws.specs.Words.{Panicked}
use Rattle.laws.specs.Types.{here, Entry, Detail, Ruled}
use Rattle.laws.proofs.Tests.{by_runs, and_right, ◌&◌, and_false, same?, not_true}
use Rattle.laws.proofs.Tally.{all_of, all_at, all_both}
use Rattle.laws.proofs.Members.{map_mem, member_has, member_times}
use Rattle.laws.proofs.Bytes.{four_back}
use Rattle.laws.proofs.Threads.{here_live}
use Rattle.laws.proofs.PlacesKept.{runner_live}
use Rattle.laws.proofs.Sound.{tested_ruled}
use Rattle.laws.proofs.DumpLength.{thread_length, message_length, held_length, head_length}
use Rattle.laws.proofs.Offsets.{placed_field, none_exactly}
use Rattle.laws.proofs.FaultOrder.{queues_on, threads_on, fields_on, none_16}
use Rattle.laws.proofs.Dump.{StateRanged, Ranged, thread_back, kind_back, head_back, thread_ranged, runner_ranged, tagged, fields}
use Rattle.laws.proofs.Dump.{cut_dump, fields_dump, read_back}

-- ---- fields of a dump that pass a test

all_tagged : {A : Type 0} (p : Field → Bool) (n : ℕ) (code : A → List ℕ) (xs : List A)
    → ((x : A) → Memᴰ x xs → p (record { tag = n; value = code x }) ≡ true) → all p (tagged n (map code xs)) ≡ true
unfolding all
all_tagged p n code [] h = refl
all_tagged p n code (x ∷ xs) h = h x (Memᴰ.head refl) & all_tagged p n code xs (λ y m. h y (Memᴰ.tail m))

-- a test that every field of a dump passes, shown for each tag
record Pass (p : Field → Bool) (T : Tables) : Type 0 where
  head : p (record { tag = 1; value = head_value T }) ≡ true
  thread : (t : Thread) → Memᴰ t T.threads → p (record { tag = 2; value = thread_value t }) ≡ true
  ready : p (record { tag = 3; value = T.ready }) ≡ true
  clock : p (record { tag = 4; value = T.clock }) ≡ true
  message : (m : Message) → Memᴰ m T.messages → p (record { tag = 5; value = message_value m }) ≡ true
  held : (h : Held) → Memᴰ h T.held → p (record { tag = 6; value = held_value h }) ≡ true

-- and whatever follows from it
pass_more : (p q : Field → Bool) (T : Tables) → ((f : Field) → p f ≡ true → q f ≡ true) → Pass p T → Pass q T
pass_more p q T h P = record {
  head = h _ P.head;
  thread = λ t m. h _ (P.thread t m);
  ready = h _ P.ready;
  clock = h _ P.clock;
  message = λ m i. h _ (P.message m i);
  held = λ k i. h _ (P.held k i);
}

all_one : (p : Field → Bool) (n : ℕ) (v : List ℕ) → p (record { tag = n; value = v }) ≡ true → all p (tagged n (v ∷ [])) ≡ true
unfolding all
all_one p n v h = h & refl

all_fields : (p : Field → Bool) (T : Tables) → Pass p T → all p (fields T) ≡ true
unfolding fields
all_fields p T h =
    all_both p _ _
    (all_both p _ _
    (all_both p _ _
    (all_both p _ _
    (all_both p _ _ (all_one p 1 (head_value T) h.head) (all_tagged p 2 thread_value T.threads h.thread))
    (all_one p 3 T.ready h.ready))
    (all_one p 4 T.clock h.clock))
    (all_tagged p 5 message_value T.messages h.message))
    (all_tagged p 6 held_value T.held h.held)

-- then no field of the dump has that fault
none_at_fault : (L : Limits) (T : Tables) → Ruled L T → (fault : Field → Bool) → Pass (λ f. not (fault f)) T
    → (f : Placed) → Memᴰ f (placed (dump T)) → fault f.field ≡ false
unfolding fields_of
none_at_fault L T r fault h f m =
    let listed = subst (λ (fs : List Field). Memᴰ f.field fs) (fields_dump L T r) (placed_field 0 [] (complete (dump T)) m) in
    not_true _ (all_at (λ g. not (fault g)) (fields T) (all_fields _ T h) f.field listed)

-- ---- 15: lengths, and the fields that always stand

right_lengths : (T : Tables) → Pass (λ f. not (wrong_length f)) T
unfolding wrong_length dump_facts dump_facts_in
right_lengths T = record {
  head = rw (eq-eqb (length (head_value T)) 9 (head_length T));
  thread = λ t m. rw (eq-eqb (length (thread_value t)) 17 (thread_length t));
  ready = refl;
  clock = refl;
  message = λ t m. rw (eq-eqb (length (message_value t)) 7 (message_length t));
  held = λ h m. rw (eq-eqb (length (held_value h)) 5 (held_length h));
}

module _ (L : Limits) (T : Tables) (r : Ruled L T) where
  tag_stands : (f : Field) → Memᴰ f (tagged 1 (head_value T ∷ []) ++ threads_on T)
      → has f.tag (map (λ g. g.tag) (fields_of (dump T))) ≡ true
  tag_stands f m = rw (fields_dump L T r, fields_on T) (member_has _ (map_mem (λ g. g.tag) _ m))

  queue_stands : (f : Field) → Memᴰ f (queues_on T) → has f.tag (map (λ g. g.tag) (fields_of (dump T))) ≡ true
  queue_stands f m = tag_stands f (Memᴰ.tail (Memᴰ.append_right (tagged 2 (map thread_value T.threads)) m))

  ends_well : ends_badly (dump T) ≡ false
  unfolding ends_badly any
  ends_well =
      simp (
        (cut_dump L T r).1,
        tag_stands (record { tag = 1; value = head_value T }) (Memᴰ.head refl),
        queue_stands (record { tag = 3; value = T.ready }) (Memᴰ.head refl),
        queue_stands (record { tag = 4; value = T.clock }) (Memᴰ.tail (Memᴰ.head refl)),
      )

  none_15 : faults_15 (dump T) ≡ []
  unfolding faults_15
  none_15 =
      rw ((none_exactly (λ f. wrong_length f.field) (placed (dump T))).1 (none_at_fault L T r wrong_length (right_lengths T)), ends_well)

-- ---- 17: each value is in its range

-- what passes is not at fault, whether it is looked at or not
passes : (looked pass : Bool) → pass ≡ true → not (looked && not pass) ≡ true
passes looked pass h = rw (h, and_false looked)

itself : (n : ℕ) → (n == n) ≡ true
itself n = eq-eqb n n refl

status_right : (s : Status) → status_fits (status_code s) ≡ true
unfolding status_code any
status_right Working = refl
status_right Idle = refl
status_right Halted = refl
status_right Panicked = refl

state_ranged : (s : State) → StateRanged s → (state_in_range s ≡ true)
    × (by_state true (by_wanted true is_name) (λ d. true) (λ k. true) s ≡ true)
unfolding state_in_range
state_ranged Running h = (refl, refl)
state_ranged Ready h = (refl, refl)
state_ranged (Receiving Anybody) h = (refl, refl)
state_ranged (Receiving (Only n)) h = (refl, lt-ltb n names h)
state_ranged Clock h = (refl, refl)
state_ranged (Device d) h = (lt-ltb d devices h, refl)
state_ranged (Trapped k) h = (refl, refl)

parent_right : (p : Parent) → by_parent (Unit {0}) (λ n. n < names) p → by_parent true is_name p ≡ true
parent_right NoParent h = refl
parent_right (ParentIs n) h = lt-ltb n names h

answer_word : (a : Answer) → answer_in_range a ≡ true → (answer_numbers a).word < wrap
unfolding answer_numbers answer_in_range
answer_word Nothing h = omega arith
answer_word (FromMessage n w) h = ltb-true w wrap (and_right (ltb n names) _ h)
answer_word (FromNotice n w) h = ltb-true w wrap (and_right (ltb n names) _ h)
answer_word (SenderGone n) h = omega arith
answer_word (Result w) h = ltb-true w wrap h

-- a thread's field, from what its value tells
thread_right : (t : Thread) → Ranged t → thread_fits (thread_value t) ≡ true
unfolding thread_fits state_fits answer_fits thread_value thread_from
thread_right t r =
    let back = thread_back t r in
    let parent : parent_from (parent_code t.parent) ≡ t.parent = ap (λ (u : Thread). u.parent) back in
    let state : state_from (state_numbers t.state).state (state_numbers t.state).detail ≡ t.state =
    ap (λ (u : Thread). u.state) back in
    let n = answer_numbers t.answer in
    let word : number (four_bytes n.word) ≡ n.word = four_back n.word (answer_word t.answer r.answer) in
    let told = ap (λ (u : Thread). u.answer) back in
    let answer : answer_from n.kind n.sender n.word ≡ t.answer = ap (answer_from n.kind n.sender) (sym word) ∙ told in
    let s = state_ranged t.state r.state in
    lt-ltb t.name names r.name
    & rw parent (parent_right t.parent r.parent)
    & rw state (itself (state_numbers t.state).state & itself (state_numbers t.state).detail & s.0 & s.1)
    & rw (word, answer) (itself n.kind & itself n.sender & itself n.word & r.answer)

runner_right : (r : Runner) → by_runner (Unit {0}) (λ n s. n < names) r → ((n s : ℕ) → r ≡ Runs n s → (1 ≤ s) × (s ≤ full_slice))
    → by_runner true (λ m s. is_name m && leb 1 s && leb s full_slice) r ≡ true
runner_right NoRunner h k = refl
runner_right (Runs n s) h k = lt-ltb n names h & le-leb 1 s (k n s refl).0 & le-leb s full_slice (k n s refl).1

module _ (L : Limits) (T : Tables) (r : Ruled L T) where
  head_right : head_fits (head_value T) ≡ true
  unfolding head_fits runner_fits head_value
  head_right =
      let back : runner_from (me T.runner) (slice_code T.runner) ≡ T.runner =
      (head_back T (runner_ranged L T r) r.steady.beats).runner in
      status_right (status T) & lt-ltb T.last names r.inv.last
      & rw back (itself (slice_code T.runner) & runner_right T.runner (runner_ranged L T r) r.steady.slice)
      & lt-ltb T.since beat_ticks r.steady.since

  -- a queue holds names of live threads
  queue_lives : (p : State → Bool) (q : List ℕ) → ((n : ℕ) → here p n T.threads ≡ times_in q n) → (n : ℕ) → Memᴰ n q →
      live n T ≡ true
  queue_lives p q h n m = here_live p n T.threads (omega (arith, h n, member_times q n m))

  queue_right : (p : State → Bool) (q : List ℕ) → ((n : ℕ) → here p n T.threads ≡ times_in q n) → all is_name q ≡ true
  queue_right p q h = all_of is_name q (λ n m. lt-ltb n names (r.inv.low n (queue_lives p q h n m)))

  message_right : (m : Message) → Memᴰ m T.messages → message_fits (message_value m) ≡ true
  unfolding message_fits message_value
  message_right m i =
      let p = r.fits.messages m i in
      lt-ltb m.to names (r.inv.low m.to p.to_live) & lt-ltb m.from names (r.inv.low m.from p.from_live)
      & rw (kind_back m.kind) (itself (message_code m.kind))

  held_right : (h : Held) → Memᴰ h T.held → ltb (at (held_value h) 0) devices ≡ true
  unfolding held_value
  held_right h i = lt-ltb h.device devices (r.fits.held h i).0

  right_values : Pass (λ f. value_fits f.tag f.value) T
  unfolding value_fits
  right_values = record {
    head = head_right;
    thread = λ t m. thread_right t (thread_ranged L T r t m);
    ready = queue_right is_ready T.ready r.inv.agree.wait;
    clock = queue_right on_clock T.clock r.inv.agree.beat;
    message = λ m i. message_right m i;
    held = λ h i. held_right h i;
  }

  none_17 : faults_17 (dump T) ≡ []
  unfolding faults_17 out_of_range
  none_17 =
      (none_exactly _ (placed (dump T))).1
      (none_at_fault L T r out_of_range
      (pass_more _ _ T (λ f h. passes (not (wrong_length f)) (value_fits f.tag f.value) h) right_values))

  -- ---- 18: names that live

  abbrev lives : ℕ → Bool
  lives n = live n T

  parent_lives : (t : Thread) → Memᴰ t T.threads → by_parent true lives t.parent ≡ true
  parent_lives t m =
      ⊎_elim
      (λ e. rw (r.fits.family.root t m e.0))
      (λ e. let u = r.fits.family.under t m e.0 in rw u.1 u.2)
      (same? t.name 0)

  entry_is_live : (own : ℕ) (m : Manager) → Entry T.threads own m → entry_lives lives m ≡ true
  unfolding Entry
  entry_is_live own Unset e = refl
  entry_is_live own (Set n) e = e.0
  entry_is_live own Gone e = refl

  state_lives : (n : ℕ) (g : Managers) (s : State) → Detail T.threads T.messages n g s → (wanted_lives lives s ≡ true)
      × (manager_set g s ≡ true)
  unfolding Detail manager_set
  state_lives n g Running d = (refl, refl)
  state_lives n g Ready d = (refl, refl)
  state_lives n g (Receiving w) d = (d.0, refl)
  state_lives n g Clock d = (refl, refl)
  state_lives n g (Device e) d = (refl, refl)
  state_lives n g (Trapped k) d = (refl, d)

  thread_is_live : (t : Thread) → Memᴰ t T.threads → thread_lives lives (thread_value t) ≡ true
  unfolding thread_lives manager
  thread_is_live t m =
      let g = r.fits.threads t m in
      let s = state_lives t.name t.managers t.state g.detail in
      rw (thread_back t (thread_ranged L T r t m)) (parent_lives t m & s.0 & (entry Program & entry Tlb & entry SysBp) & s.1)
    where
      entry : (k : TrapKind) → entry_lives lives (manager k t.managers) ≡ true
      entry k = entry_is_live t.name (manager k t.managers) ((r.fits.threads t m).entries k)

  head_is_live : head_lives lives (head_value T) ≡ true
  unfolding head_lives
  head_is_live =
      rw (head_back T (runner_ranged L T r) r.steady.beats).runner
      (by_runs (λ (b : Bool). b ≡ true) T.runner (λ e. refl) (runner_live r.inv))

  message_is_live : (m : Message) → Memᴰ m T.messages → message_lives lives (message_value m) ≡ true
  unfolding message_lives message_value
  message_is_live m i = (r.fits.messages m i).to_live & (r.fits.messages m i).from_live

  live_values : Pass (λ f. value_lives lives f.tag f.value) T
  unfolding value_lives
  live_values = record {
    head = head_is_live;
    thread = λ t m. thread_is_live t m;
    ready = all_of lives T.ready (queue_lives is_ready T.ready r.inv.agree.wait);
    clock = all_of lives T.clock (queue_lives on_clock T.clock r.inv.agree.beat);
    message = λ m i. message_is_live m i;
    held = λ h i. refl;
  }

  none_18 : faults_18 (dump T) ≡ []
  unfolding faults_18 names_nobody
  none_18 =
      rw (read_back L T r)
      ((none_exactly _ (placed (dump T))).1
      (none_at_fault L T r (names_nobody lives)
      (pass_more _ _ T (λ f h. passes (not (wrong_length f)) (value_lives lives f.tag f.value) h) live_values)))

-- A dump of tables that meet the rules has no fault.
pub no_fault_in_a_dump : (L : Limits) (T : Tables) → table_rules L T ≡ true →
    (faults_15 (dump T) ≡ []) × (faults_16 (dump T) ≡ []) × (faults_17 (dump T) ≡ []) × (faults_18 (dump T) ≡ [])
no_fault_in_a_dump L T h = let r = tested_ruled L T h in (none_15 L T r, none_16 L T r, none_17 L T r, none_18 L T r)
