-- The dump and its reader: every value comes back, cutting gives the fields, and so reading a dump gives the tables that were written.
use Rattle.std.proofs.Common.{if◌then◌else◌, ◌==◌}
use Prim.Native.Nat.{ℕ, ◌<◌}
use mathlib.Core.Path.{◌≡◌, refl, sym, ap, ap₂, ◌∙◌}
use mathlib.Core.Logic.{⊎_elim, ◌≢◌, ◌↔◌}
use mathlib.Core.Bool.{Bool, true, false, ◌&&◌}
use mathlib.Core.List.{List, [], ◌∷◌, ◌++◌, map, append-nil, Memᴰ}
use native.Mathlib.Omega.{arith}
use lib.Dec.{ltb}
use lib.ListN.{length}
use borrow.Author.Tests.{ne_eqb, eq-eqb, le-leb, ltb-true, lt-ltb}
use Rattle.rules.specs.Lists.{all, any, keep, each, times_in, same, is_byte, number, two_bytes, four_bytes}
use Rattle.rules.specs.Numbers.{names, service, nobody, devices, wrap}
use Rattle.laws.specs.Words.{Limits}
use Rattle.rules.specs.Words.{by_state, by_wanted, by_manager, by_parent, by_runner}
use Rattle.rules.specs.Tables.{Tables, named, manager, me}
use Rattle.rules.specs.States.{is_ready, on_clock}
use Rattle.rules.specs.Dispatch.{status}
use Rattle.rules.specs.Fields.{field_size, whole, complete, unread}
use Rattle.rules.specs.Events.{wanted}
use Rattle.rules.specs.Codes.{status_code, slice_code, answer_numbers, trap_code, state_numbers, manager_code, parent_code, message_code}
use Rattle.rules.specs.TableRules.{answer_in_range, table_rules}
use Rattle.rules.specs.Dump.{field, head_value, answer_value, thread_value, message_value, held_value, dump}
use Rattle.rules.specs.Load.{Field, as_field, fields_of, runner_from, parent_from, manager_from, trap_kind_from, state_from, answer_from}
use Rattle.rules.specs.Load.{message_kind_from, at, word_at, thread_from, message_from, held_from, values_of, value_of, tables_from, told}
use Rattle.rules.specs.Load.{Loaded, no_dump, loaded, load}
use Rattle.laws.specs.Words.{Wanted, Anybody, Only, TrapKind, Program, Tlb, SysBp, State, Running, Ready, Receiving, Clock, Device}
use Rattle.laws.specs.Words.{Trapped, Answer, Nothing, FromMessage, FromNotice, SenderGone, Result, Manager, Unset, Set, Gone}
use Rattle.laws.specs.Words.{Managers, Parent, NoParent, ParentIs, Thread, MessageKind, Ordinary, Notice, Message, Held, Runner}
use Rattle.laws.specs.Words.{NoRunner, Runs, Status, Working, Idle, Halted, Panicked}
use Rattle.laws.specs.Batch.{one_field, joined}
use Rattle.laws.specs.Types.{here, Entry, Detail, Ruled}
use Rattle.laws.proofs.Tests.{by_if, same?, and_left, and_right, ◌&◌}
use Rattle.laws.proofs.Tally.{all_of, all_both, each_append, all_each}
use Rattle.laws.proofs.Members.{map_back, member_times, same_refl, same_true}
use Rattle.laws.proofs.Batch.{cut_is_the_only_one}
use Rattle.laws.proofs.Bytes.{two_are_bytes, four_are_bytes, two_back, four_back}
use Rattle.laws.proofs.Threads.{member_live, here_live}
use Rattle.laws.proofs.PlacesKept.{runner_live}
use Rattle.laws.proofs.Sound.{tested_ruled}
use Rattle.laws.proofs.DumpLength.{threads_few, queues_few, thread_length, message_length, held_length, head_length}

-- ---- each value back

parent_back : (p : Parent) → by_parent (Unit {0}) (λ n. n < names) p → parent_from (parent_code p) ≡ p
parent_back NoParent h = refl
parent_back (ParentIs n) h = rw (ne_eqb n nobody (λ e. omega arith))

manager_back : (m : Manager) → by_manager (Unit {0}) (λ n. n < names) m → manager_from (manager_code m) ≡ m
unfolding manager_code
manager_back Unset h = refl
manager_back (Set n) h = rw (ne_eqb n nobody (λ e. omega arith), ne_eqb n service (λ e. omega arith))
manager_back Gone h = refl

wanted_back : (w : Wanted) → by_wanted (Unit {0}) (λ n. n < names) w → wanted (by_wanted nobody (λ n. n) w) ≡ w
wanted_back Anybody h = refl
wanted_back (Only n) h = rw (ne_eqb n nobody (λ e. omega arith))

trap_back : (k : TrapKind) → trap_kind_from (trap_code k) ≡ k
unfolding trap_code
trap_back Program = refl
trap_back Tlb = refl
trap_back SysBp = refl

abbrev pub StateRanged : State → Type 0
StateRanged s = by_state (Unit {0}) (λ w. by_wanted (Unit {0}) (λ n. n < names) w) (λ d. d < devices) (λ k. Unit {0}) s

state_back : (s : State) → StateRanged s → state_from (state_numbers s).state (state_numbers s).detail ≡ s
unfolding state_numbers
state_back Running h = refl
state_back Ready h = refl
state_back (Receiving w) h = ap Receiving (wanted_back w h)
state_back Clock h = refl
state_back (Device d) h = refl
state_back (Trapped k) h = ap Trapped (trap_back k)

answer_back : (a : Answer) → answer_in_range a ≡ true →
    answer_from (answer_numbers a).kind (answer_numbers a).sender (number (four_bytes (answer_numbers a).word)) ≡ a
unfolding answer_numbers answer_in_range
answer_back Nothing h = refl
answer_back (FromMessage n w) h = ap (FromMessage n) (four_back w (ltb-true w wrap (and_right (ltb n names) _ h)))
answer_back (FromNotice n w) h = ap (FromNotice n) (four_back w (ltb-true w wrap (and_right (ltb n names) _ h)))
answer_back (SenderGone n) h = refl
answer_back (Result w) h = ap Result (four_back w (ltb-true w wrap h))

runner_back : (r : Runner) → by_runner (Unit {0}) (λ n s. n < names) r → runner_from (me r) (slice_code r) ≡ r
unfolding me
runner_back NoRunner h = refl
runner_back (Runs n s) h = rw (ne_eqb n nobody (λ e. omega arith))

-- a thread's numbers in their ranges
pub record Ranged (t : Thread) : Type 0 where
  pub name : t.name < names
  pub parent : by_parent (Unit {0}) (λ n. n < names) t.parent
  pub state : StateRanged t.state
  pub managers : (k : TrapKind) → by_manager (Unit {0}) (λ n. n < names) (manager k t.managers)
  pub ticks : t.ticks < wrap
  pub answer : answer_in_range t.answer ≡ true

pub thread_back : (t : Thread) → Ranged t → thread_from (thread_value t) ≡ t
unfolding thread_from thread_value manager
thread_back t r =
    λ i. record {
      name = t.name;
      parent = parent_back t.parent r.parent i;
      state = state_back t.state r.state i;
      managers = record {
        program = manager_back t.managers.program (r.managers Program) i;
        tlb = manager_back t.managers.tlb (r.managers Tlb) i;
        sysbp = manager_back t.managers.sysbp (r.managers SysBp) i;
      };
      ticks = four_back t.ticks r.ticks i;
      answer = answer_back t.answer r.answer i;
    }

pub kind_back : (k : MessageKind) → message_kind_from (message_code k) ≡ k
unfolding message_code
kind_back Ordinary = refl
kind_back Notice = refl

pub message_back : (m : Message) → m.word < wrap → message_from (message_value m) ≡ m
unfolding message_from message_value
message_back m h = λ i. record { to = m.to; from = m.from; kind = kind_back m.kind i; word = four_back m.word h i }

pub held_back : (h : Held) → h.word < wrap → held_from (held_value h) ≡ h
unfolding held_from held_value
held_back h b = λ i. record { device = h.device; word = four_back h.word b i }

-- what a head's value tells of tables
pub record HeadTells (T : Tables) (v : List ℕ) : Type 0 where
  pub last : at v 1 ≡ T.last
  pub runner : runner_from (at v 2) (at v 3) ≡ T.runner
  pub since : at v 4 ≡ T.since
  pub beats : word_at v 5 ≡ T.beats

pub head_back : (T : Tables) → by_runner (Unit {0}) (λ n s. n < names) T.runner → T.beats < wrap → HeadTells T (head_value T)
unfolding head_value
head_back T r b = record { last = refl; runner = runner_back T.runner r; since = refl; beats = four_back T.beats b }

-- ---- what the table rules say of these numbers

module _ (L : Limits) (T : Tables) (r : Ruled L T) where
  entry_ranged : (own : ℕ) (m : Manager) → Entry T.threads own m → by_manager (Unit {0}) (λ n. n < names) m
  unfolding Entry
  entry_ranged own Unset e = tt
  entry_ranged own (Set n) e = r.inv.low n e.0
  entry_ranged own Gone e = tt

  wanted_ranged : (w : Wanted) → by_wanted true (λ f. any (named f) T.threads) w ≡ true → by_wanted (Unit {0}) (λ n. n < names) w
  wanted_ranged Anybody e = tt
  wanted_ranged (Only n) e = r.inv.low n e

  state_ranged : (n : ℕ) (g : Managers) (s : State) → Detail T.threads T.messages n g s → StateRanged s
  unfolding Detail
  state_ranged n g Running d = tt
  state_ranged n g Ready d = tt
  state_ranged n g (Receiving w) d = wanted_ranged w d.0
  state_ranged n g Clock d = tt
  state_ranged n g (Device e) d = d
  state_ranged n g (Trapped k) d = tt

  parent_ranged : (t : Thread) → Memᴰ t T.threads → by_parent (Unit {0}) (λ n. n < names) t.parent
  parent_ranged t m =
      ⊎_elim
      (λ e. rw (r.fits.family.root t m e.0) tt)
      (λ e. let u = r.fits.family.under t m e.0 in rw u.1 (r.inv.low u.0 u.2))
      (same? t.name 0)

  pub thread_ranged : (t : Thread) → Memᴰ t T.threads → Ranged t
  thread_ranged t m =
      let g = r.fits.threads t m in
      record {
        name = r.inv.low t.name (member_live T.threads t m);
        parent = parent_ranged t m;
        state = state_ranged t.name t.managers t.state g.detail;
        managers = λ k. entry_ranged t.name (manager k t.managers) (g.entries k);
        ticks = g.ticks;
        answer = g.form;
      }

  pub runner_ranged : by_runner (Unit {0}) (λ n s. n < names) T.runner
  runner_ranged = go T.runner refl
    where
      go : (x : Runner) → T.runner ≡ x → by_runner (Unit {0}) (λ n s. n < names) x
      go NoRunner e = tt
      go (Runs n s) e = r.inv.low n (runner_live r.inv n s e)

-- ---- fields

abbrev pub written : List Field → List ℕ
written fs = each (λ f. field f.tag f.value) fs

abbrev pub tagged : ℕ → List (List ℕ) → List Field
tagged n vs = map (λ v. record { tag = n; value = v }) vs

-- the fields that a dump has
unfoldable pub fields : Tables → List Field
fields T =
    tagged 1 (head_value T ∷ []) ++ tagged 2 (map thread_value T.threads) ++ tagged 3 (T.ready ∷ []) ++ tagged 4 (T.clock ∷ [])
    ++ tagged 5 (map message_value T.messages) ++ tagged 6 (map held_value T.held)

-- a field's length fits its two bytes
abbrev pub short : Field → Bool
short f = ltb (length f.value) 65536

-- a field as it is written
abbrev pub spelled : Field → List ℕ
spelled f = field f.tag f.value

-- it is exactly one complete field
one_written : (f : Field) → short f ≡ true → one_field (spelled f) ≡ true
unfolding field_size whole
one_written f h =
    let e = two_back (length f.value) (ltb-true _ _ h) in
    le-leb _ (length f.value) (omega (arith, e)) & eq-eqb (field_size (spelled f)) (length (spelled f)) (omega (arith, e))

all_written : (fs : List Field) → all short fs ≡ true → all one_field (map spelled fs) ≡ true
unfolding all
all_written [] h = refl
all_written (f ∷ fs) h = one_written f (and_left (short f) _ h) & all_written fs (and_right (short f) _ h)

joined_written : (fs : List Field) → joined (map spelled fs) ≡ written fs
unfolding each
joined_written [] = refl
joined_written (f ∷ fs) = ap (λ (l : List ℕ). spelled f ++ l) (joined_written fs)

-- Cutting what was written gives its fields, and nothing is left.
pub cut_written : (fs : List Field) → all short fs ≡ true → (complete (written fs) ≡ map spelled fs) × (unread (written fs) ≡ [])
cut_written fs h =
    let e : joined (map spelled fs) ++ [] ≡ written fs = append-nil (joined (map spelled fs)) ∙ joined_written fs in
    let c = cut_is_the_only_one (map spelled fs) [] (all_written fs h) (unfold whole in refl) in
    (ap complete (sym e) ∙ c.0, ap unread (sym e) ∙ c.1)

-- and each is read as it was
spelled_back : (fs : List Field) → map as_field (map spelled fs) ≡ fs
spelled_back [] = refl
spelled_back (f ∷ fs) = ap (λ (gs : List Field). f ∷ gs) (spelled_back fs)

written_tagged : {A : Type 0} (n : ℕ) (f : A → List ℕ) (xs : List A) → written (tagged n (map f xs)) ≡ each (λ x. field n (f x)) xs
unfolding each
written_tagged n f [] = refl
written_tagged n f (x ∷ xs) = ap (λ (l : List ℕ). field n (f x) ++ l) (written_tagged n f xs)

written_one : (n : ℕ) (v : List ℕ) → written (tagged n (v ∷ [])) ≡ field n v
unfolding each
written_one n v = append-nil (field n v)

written_also : (fs gs : List Field) (a b : List ℕ) → written fs ≡ a → written gs ≡ b → written (fs ++ gs) ≡ a ++ b
written_also fs gs a b p q = each_append (λ f. field f.tag f.value) fs gs ∙ ap₂ (λ (x y : List ℕ). x ++ y) p q

-- A dump is its fields, written one behind the other.
pub written_dump : (T : Tables) → written (fields T) ≡ dump T
unfolding dump fields
written_dump T =
    written_also _ _ _ _
    (written_also _ _ _ _
    (written_also _ _ _ _
    (written_also _ _ _ _
    (written_also _ _ _ _ (written_one 1 (head_value T)) (written_tagged 2 thread_value T.threads))
    (written_one 3 T.ready))
    (written_one 4 T.clock))
    (written_tagged 5 message_value T.messages))
    (written_tagged 6 held_value T.held)

-- ---- tables from fields

values_tagged : (n m : ℕ) (vs : List (List ℕ)) → values_of n (tagged m vs) ≡ (if m == n then vs else [])
unfolding keep
values_tagged n m [] = by_if (λ (l : List (List ℕ)). [] ≡ l) (m == n) (λ e. refl) (λ e. refl)
values_tagged n m (v ∷ vs) = go (m == n) (values_tagged n m vs)
  where
    go : (b : Bool) → values_of n (tagged m vs) ≡ (if b then vs else []) →
        map (λ f. f.value) (if b then record { tag = m; value = v }
        ∷ keep (λ f. f.tag == n) (tagged m vs) else keep (λ f. f.tag == n) (tagged m vs)) ≡ (if b then v ∷ vs else [])
    go true e = ap (λ (l : List (List ℕ)). v ∷ l) e
    go false e = e

values_append : (n : ℕ) (fs gs : List Field) → values_of n (fs ++ gs) ≡ values_of n fs ++ values_of n gs
unfolding keep
values_append n [] gs = refl
values_append n (f ∷ fs) gs = go (f.tag == n) (values_append n fs gs)
  where
    go : (b : Bool) → values_of n (fs ++ gs) ≡ values_of n fs ++ values_of n gs →
        map (λ f. f.value) (if b then f ∷ keep (λ f. f.tag == n) (fs ++ gs) else keep (λ f. f.tag == n) (fs ++ gs)) ≡ map (λ f. f.value)
        (if b then f ∷ keep (λ f. f.tag == n) fs else keep (λ f. f.tag == n) fs) ++ values_of n gs
    go true e = ap (λ (l : List (List ℕ)). f.value ∷ l) e
    go false e = e

values_also : (n : ℕ) (fs gs : List Field) (a b : List (List ℕ)) → values_of n fs ≡ a → values_of n gs ≡ b → values_of n (fs ++ gs) ≡ a ++ b
values_also n fs gs a b p q = values_append n fs gs ∙ ap₂ (λ (x y : List (List ℕ)). x ++ y) p q

abbrev under : ℕ → ℕ → List (List ℕ) → List (List ℕ)
under n m vs = if m == n then vs else []

-- of each tag the values that were written under it
values_fields : (n : ℕ) (T : Tables) → values_of n (fields T) ≡
    under n 1 (head_value T ∷ []) ++ under n 2 (map thread_value T.threads) ++ under n 3 (T.ready ∷ []) ++ under n 4 (T.clock ∷ [])
    ++ under n 5 (map message_value T.messages) ++ under n 6 (map held_value T.held)
unfolding fields
values_fields n T =
    values_also n _ _ _ _
    (values_also n _ _ _ _
    (values_also n _ _ _ _
    (values_also n _ _ _ _
    (values_also n _ _ _ _ (values_tagged n 1 (head_value T ∷ [])) (values_tagged n 2 (map thread_value T.threads)))
    (values_tagged n 3 (T.ready ∷ [])))
    (values_tagged n 4 (T.clock ∷ [])))
    (values_tagged n 5 (map message_value T.messages)))
    (values_tagged n 6 (map held_value T.held))

one_value : (v : List ℕ) (vs : List (List ℕ)) → vs ≡ v ∷ [] → each (λ x. x) vs ≡ v
unfolding each
one_value v vs e = ap (each (λ x. x)) e ∙ append-nil v

values_back : {A : Type 0} (code : A → List ℕ) (read : List ℕ → A) (xs : List A) (vs : List (List ℕ)) → vs ≡ map code xs →
    ((x : A) → Memᴰ x xs → read (code x) ≡ x) → map read vs ≡ xs
values_back code read xs vs e h = ap (map read) e ∙ map_back code read xs h

-- The fields of tables that meet the rules give back the tables.
pub tables_back : (L : Limits) (T : Tables) → Ruled L T → tables_from (fields T) ≡ T
unfolding tables_from
tables_back L T r =
    λ i. record {
      last = (ap (λ (v : List ℕ). at v 1) head ∙ told.last) i;
      runner = (ap (λ (v : List ℕ). runner_from (at v 2) (at v 3)) head ∙ told.runner) i;
      since = (ap (λ (v : List ℕ). at v 4) head ∙ told.since) i;
      beats = (ap (λ (v : List ℕ). word_at v 5) head ∙ told.beats) i;
      threads = values_back thread_value thread_from T.threads _ (values_fields 2 T ∙ simp append-nil)
          (λ t m. thread_back t (thread_ranged L T r t m)) i;
      ready = one_value T.ready _ (values_fields 3 T ∙ simp append-nil) i;
      clock = one_value T.clock _ (values_fields 4 T ∙ simp append-nil) i;
      messages = values_back message_value message_from T.messages _ (values_fields 5 T ∙ simp append-nil)
          (λ m n. message_back m (r.fits.messages m n).word) i;
      held = values_back held_value held_from T.held _ (values_fields 6 T) (λ h m. held_back h (r.fits.held h m).1) i;
    }
  where
    head : value_of 1 (fields T) ≡ head_value T
    head = one_value (head_value T) _ (values_fields 1 T ∙ simp append-nil)

    told : HeadTells T (head_value T)
    told = head_back T (runner_ranged L T r) r.steady.beats

-- ---- the fields are short

short_tagged : {A : Type 0} (n k : ℕ) (f : A → List ℕ) (xs : List A) → ((x : A) → length (f x) ≡ k) → k < 65536 →
    all short (tagged n (map f xs)) ≡ true
unfolding all
short_tagged n k f [] h l = refl
short_tagged n k f (x ∷ xs) h l = lt-ltb (length (f x)) 65536 (omega (arith, h x)) & short_tagged n k f xs h l

short_one : (n : ℕ) (v : List ℕ) → length v < 65536 → all short (tagged n (v ∷ [])) ≡ true
unfolding all
short_one n v h = lt-ltb _ _ h & refl

pub fields_short : (L : Limits) (T : Tables) → Ruled L T → all short (fields T) ≡ true
unfolding fields
fields_short L T r =
    let q = queues_few T.threads T.runner T.ready T.clock r.inv.agree in
    let t = threads_few L T r in
    all_both short _ _
    (all_both short _ _
    (all_both short _ _
    (all_both short _ _
    (all_both short _ _ (short_one 1 (head_value T) (omega (arith, head_length T)))
    (short_tagged 2 17 thread_value T.threads thread_length (omega arith)))
    (short_one 3 T.ready (omega arith)))
    (short_one 4 T.clock (omega arith)))
    (short_tagged 5 7 message_value T.messages message_length (omega arith)))
    (short_tagged 6 5 held_value T.held held_length (omega arith))

-- Cutting a dump gives its fields, and nothing is left.
pub cut_dump : (L : Limits) (T : Tables) → Ruled L T → (complete (dump T) ≡ map spelled (fields T)) × (unread (dump T) ≡ [])
cut_dump L T r =
    let c = cut_written (fields T) (fields_short L T r) in
    (ap complete (sym (written_dump T)) ∙ c.0, ap unread (sym (written_dump T)) ∙ c.1)

pub fields_dump : (L : Limits) (T : Tables) → Ruled L T → fields_of (dump T) ≡ fields T
unfolding fields_of
fields_dump L T r = ap (map as_field) (cut_dump L T r).0 ∙ spelled_back (fields T)

-- ---- the dump is bytes

a_byte : (n : ℕ) → n < 256 → is_byte n ≡ true
a_byte n h = lt-ltb n 256 h

field_bytes : (tag : ℕ) (v : List ℕ) → tag < 256 → all is_byte v ≡ true → all is_byte (field tag v) ≡ true
unfolding all
field_bytes tag v t h = a_byte tag t & all_both is_byte (two_bytes (length v)) v (two_are_bytes (length v)) h

parent_byte : (p : Parent) → by_parent (Unit {0}) (λ n. n < names) p → parent_code p < 256
parent_byte NoParent h = omega arith
parent_byte (ParentIs n) h = omega arith

manager_byte : (m : Manager) → by_manager (Unit {0}) (λ n. n < names) m → manager_code m < 256
unfolding manager_code
manager_byte Unset h = omega arith
manager_byte (Set n) h = omega arith
manager_byte Gone h = omega arith

wanted_byte : (w : Wanted) → by_wanted (Unit {0}) (λ n. n < names) w → by_wanted nobody (λ n. n) w < 256
wanted_byte Anybody h = omega arith
wanted_byte (Only n) h = omega arith

trap_byte : (k : TrapKind) → trap_code k < 256
unfolding trap_code
trap_byte Program = omega arith
trap_byte Tlb = omega arith
trap_byte SysBp = omega arith

state_bytes : (s : State) → StateRanged s → ((state_numbers s).state < 256) × ((state_numbers s).detail < 256)
unfolding state_numbers
state_bytes Running h = omega arith
state_bytes Ready h = omega arith
state_bytes (Receiving w) h = (omega arith, wanted_byte w h)
state_bytes Clock h = omega arith
state_bytes (Device d) h = omega arith
state_bytes (Trapped k) h = (omega arith, trap_byte k)

answer_bytes : (a : Answer) → answer_in_range a ≡ true → ((answer_numbers a).kind < 256) × ((answer_numbers a).sender < 256)
unfolding answer_numbers answer_in_range
answer_bytes Nothing h = omega arith
answer_bytes (FromMessage n w) h = omega (arith, ltb-true n names (and_left (ltb n names) _ h))
answer_bytes (FromNotice n w) h = omega (arith, ltb-true n names (and_left (ltb n names) _ h))
answer_bytes (SenderGone n) h = omega (arith, ltb-true n names h)
answer_bytes (Result w) h = omega arith

thread_bytes : (t : Thread) → Ranged t → all is_byte (thread_value t) ≡ true
unfolding all thread_value manager
thread_bytes t r =
    let s = state_bytes t.state r.state in
    let a = answer_bytes t.answer r.answer in
    a_byte t.name (omega (arith, r.name)) & (a_byte _ (parent_byte t.parent r.parent) & (a_byte _ s.0 & (a_byte _ s.1
    & (a_byte _ (manager_byte _ (r.managers Program))
    & (a_byte _ (manager_byte _ (r.managers Tlb)) & (a_byte _ (manager_byte _ (r.managers SysBp))
    & all_both is_byte (four_bytes t.ticks) (answer_value t.answer) (four_are_bytes t.ticks)
    (a_byte _ a.0 & (a_byte _ a.1 & four_are_bytes (answer_numbers t.answer).word))))))))

status_byte : (s : Status) → status_code s < 256
unfolding status_code
status_byte Working = omega arith
status_byte Idle = omega arith
status_byte Halted = omega arith
status_byte Panicked = omega arith

kind_byte : (k : MessageKind) → message_code k < 256
unfolding message_code
kind_byte Ordinary = omega arith
kind_byte Notice = omega arith

module _ (L : Limits) (T : Tables) (r : Ruled L T) where
  runner_bytes : (me T.runner < 256) × (slice_code T.runner < 256)
  unfolding me
  runner_bytes = go T.runner refl (runner_ranged L T r)
    where
      go : (x : Runner) → T.runner ≡ x → by_runner (Unit {0}) (λ n s. n < names) x → (me x < 256) × (slice_code x < 256)
      go NoRunner e h = omega arith
      go (Runs n s) e h = omega (arith, (r.steady.slice n s e).1)

  head_bytes : all is_byte (head_value T) ≡ true
  unfolding all head_value
  head_bytes =
      a_byte _ (status_byte (status T))
      & (a_byte T.last (omega (arith, r.inv.last)) & (a_byte _ runner_bytes.0 & (a_byte _ runner_bytes.1
      & (a_byte T.since (omega (arith, r.steady.since)) & four_are_bytes T.beats))))

  -- a queue holds names of live threads
  queue_bytes : (p : State → Bool) (q : List ℕ) → ((n : ℕ) → here p n T.threads ≡ times_in q n) → all is_byte q ≡ true
  queue_bytes p q h = all_of is_byte q
      (λ n m. a_byte n (omega (arith, r.inv.low n (here_live p n T.threads (omega (arith, h n, member_times q n m))))))

  message_bytes : (m : Message) → Memᴰ m T.messages → all is_byte (message_value m) ≡ true
  unfolding all message_value
  message_bytes m i =
      let p = r.fits.messages m i in
      a_byte m.to (omega (arith, r.inv.low m.to p.to_live))
      & (a_byte m.from (omega (arith, r.inv.low m.from p.from_live))
      & (a_byte _ (kind_byte m.kind) & four_are_bytes m.word))

  held_bytes : (h : Held) → Memᴰ h T.held → all is_byte (held_value h) ≡ true
  unfolding all held_value
  held_bytes h i = a_byte h.device (omega (arith, (r.fits.held h i).0)) & four_are_bytes h.word

-- The dump of tables that meet the rules is a list of bytes.
pub dump_bytes : (L : Limits) (T : Tables) → table_rules L T ≡ true → all is_byte (dump T) ≡ true
unfolding dump
dump_bytes L T h =
    let r = tested_ruled L T h in
    all_both is_byte _ _
    (all_both is_byte _ _
    (all_both is_byte _ _
    (all_both is_byte _ _
    (all_both is_byte _ _
    (field_bytes 1 (head_value T) (omega arith) (head_bytes L T r))
    (all_each is_byte (λ t. field 2 (thread_value t)) T.threads
    (λ t m. field_bytes 2 (thread_value t) (omega arith) (thread_bytes t (thread_ranged L T r t m)))))
    (field_bytes 3 T.ready (omega arith) (queue_bytes L T r is_ready T.ready r.inv.agree.wait)))
    (field_bytes 4 T.clock (omega arith) (queue_bytes L T r on_clock T.clock r.inv.agree.beat)))
    (all_each is_byte (λ m. field 5 (message_value m)) T.messages
    (λ m i. field_bytes 5 (message_value m) (omega arith) (message_bytes L T r m i))))
    (all_each is_byte (λ h. field 6 (held_value h)) T.held (λ h i. field_bytes 6 (held_value h) (omega arith) (held_bytes L T r h i)))

-- ---- reading

pub read_back : (L : Limits) (T : Tables) → Ruled L T → told (dump T) ≡ T
unfolding told
read_back L T r = ap tables_from (fields_dump L T r) ∙ tables_back L T r

-- Reading a dump of tables that meet the rules gives those tables.
pub load_dump : (L : Limits) (T : Tables) → table_rules L T ≡ true → load L (dump T) ≡ loaded T
unfolding load
load_dump L T h =
    ap (λ (U : Tables). if table_rules L U && same (dump U) (dump T) then loaded U else no_dump) (read_back L T (tested_ruled L T h))
    ∙ rw (h, same_refl (dump T))

-- What was read meets the rules, and its dump is the bytes that were read.
pub load_is_dump : (L : Limits) (bytes : List ℕ) (T : Tables) → load L bytes ≡ loaded T → (table_rules L T ≡ true) × (dump T ≡ bytes)
unfolding load
load_is_dump L bytes T h = go _ refl h
  where
    U : Tables
    U = told bytes

    go : (b : Bool) → (table_rules L U && same (dump U) bytes) ≡ b → (if b then loaded U else no_dump) ≡ loaded T → (table_rules L T ≡ true)
        × (dump T ≡ bytes)
    go true e k =
        let s : U ≡ T = cc in (
          ap (table_rules L) (sym s) ∙ and_left (table_rules L U) _ e,
          ap dump (sym s)
              ∙ same_true (dump U) bytes (and_right (table_rules L U) _ e),
        )
    go false e k = let z : ◌≡◌ {A = ℕ} 0 1 = cc in absurd (omega arith)

-- Two tables that meet the rules and have the same dump are the same.
pub dump_tells : (L : Limits) (T U : Tables) → table_rules L T ≡ true → table_rules L U ≡ true → dump T ≡ dump U → T ≡ U
dump_tells L T U h k e =
    let s : loaded T ≡ loaded U = sym (load_dump L T h) ∙ ap (load L) e ∙ load_dump L U k in
    cc

-- "Bytes are a dump exactly if these rules hold and the writer gives those bytes."
pub loaded_exactly : (L : Limits) (bytes : List ℕ) (T : Tables) → (load L bytes ≡ loaded T) ↔ ((table_rules L T ≡ true) × (dump T ≡ bytes))
loaded_exactly L bytes T = (load_is_dump L bytes T, λ h. ap (load L) (sym h.1) ∙ load_dump L T h.0)

-- Reading refuses bytes exactly if they are the dump of no tables that meet the rules.
pub accepted_exactly_dumps : (L : Limits) (bytes : List ℕ) →
    (load L bytes ≡ no_dump) ↔ ((T : Tables) → table_rules L T ≡ true → dump T ≢ bytes)
accepted_exactly_dumps L bytes = (refused, λ h. go (load L bytes) refl h)
  where
    refused : load L bytes ≡ no_dump → (T : Tables) → table_rules L T ≡ true → dump T ≢ bytes
    refused n T h e =
        let s : loaded T ≡ no_dump = sym (load_dump L T h) ∙ ap (load L) e ∙ n in
        let z : ◌≡◌ {A = ℕ} 0 1 = cc in omega arith

    go : (x : Loaded) → load L bytes ≡ x → ((T : Tables) → table_rules L T ≡ true → dump T ≢ bytes) → x ≡ no_dump
    go no_dump e h = refl
    go (loaded T) e h = let r = load_is_dump L bytes T e in absurd (h T r.0 r.1)
