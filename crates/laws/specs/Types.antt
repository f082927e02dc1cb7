-- The table rules as types: what proofs use. Sound says that the Boolean test `table_rules` and these say the same.
use Rattle.std.specs.Prelude.{ℕ, ◌+◌, ◌≤◌, ◌<◌, ◌≡◌, ◌≢◌, Bool, true, false, ◌&&◌, leb, ltb, length}
use mathlib.Core.List.{List, [], Memᴰ}
use Rattle.rules.specs.Lists.{one_if, any, count, chain, times_in}
use Rattle.rules.specs.Numbers.{names, full_slice, beat_ticks, devices, wrap}
use Rattle.laws.specs.Words.{Limits}
use Rattle.rules.specs.Words.{by_wanted, by_manager}
use Rattle.laws.specs.Words.{TrapKind, State, Running, Ready, Receiving, Clock, Device, Trapped, Nothing, Manager, Unset, Set, Gone}
use Rattle.laws.specs.Words.{Managers, NoParent, ParentIs, Thread, Message, Held, Runner, NoRunner, Runs}
use Rattle.rules.specs.Tables.{Tables, named, manager, runs_as}
use Rattle.rules.specs.States.{is_running, is_ready, on_clock, waits_for, awaits}
use Rattle.rules.specs.Waking.{is_ordinary, notice_of}
use Rattle.rules.specs.Receive.{wanted_by}
use Rattle.rules.specs.Interrupt.{held_for}
use Rattle.rules.specs.TableRules.{answer_in_range}

-- threads stand by rising name
abbrev pub Rising : List Thread → Type 0
Rising ts = chain (λ t u. ltb t.name u.name) ts ≡ true

-- how many threads of name n are in a kind of state
unfoldable pub here : (State → Bool) → ℕ → List Thread → ℕ
here p n ts = count (λ t. named n t && p t.state) ts

-- "state, runner, ready queue and clock queue agree, each name once"
pub record Places (ts : List Thread) (r : Runner) (q c : List ℕ) : Type 0 where
  pub once : (n : ℕ) → count (named n) ts ≤ 1
  pub run : (n : ℕ) → here is_running n ts ≡ one_if (runs_as n r)
  pub wait : (n : ℕ) → here is_ready n ts ≡ times_in q n
  pub beat : (n : ℕ) → here on_clock n ts ≡ times_in c n

abbrev pub Agree : Tables → Type 0
Agree T = Places T.threads T.runner T.ready T.clock

-- names are below 254 and not too many; their order is a matter of `Good`
pub record Inv (L : Limits) (T : Tables) : Type 0 where
  pub agree : Agree T
  pub low : (n : ℕ) → any (named n) T.threads ≡ true → n < names
  pub few : length T.threads ≤ L.threads
  pub last : T.last < names

pub record Steady (T : Tables) : Type 0 where
  pub slice : (n s : ℕ) → T.runner ≡ Runs n s → (1 ≤ s) × (s ≤ full_slice)
  pub quiet : T.runner ≡ NoRunner → T.ready ≡ []
  pub since : T.since < beat_ticks
  pub beats : T.beats < wrap

-- a manager entry: none, gone, or a live thread other than oneself
unfoldable pub Entry : List Thread → ℕ → Manager → Type 0
Entry ts own Unset = Unit {0}
Entry ts own (Set n) = (any (named n) ts ≡ true) × (n ≢ own)
Entry ts own Gone = Unit {0}

-- what a state's own value must be, for a thread of name n with managers g
unfoldable pub Detail : List Thread → List Message → ℕ → Managers → State → Type 0
Detail ts ms n g Running = Unit {0}
Detail ts ms n g Ready = Unit {0}
Detail ts ms n g (Receiving w) = (by_wanted true (λ f. any (named f) ts) w ≡ true) × (any (wanted_by n w) ms ≡ false)
Detail ts ms n g Clock = Unit {0}
Detail ts ms n g (Device d) = d < devices
Detail ts ms n g (Trapped k) = by_manager false (λ m. true) (manager k g) ≡ true

pub record Right (ts : List Thread) (ms : List Message) (t : Thread) : Type 0 where
  pub entries : (k : TrapKind) → Entry ts t.name (manager k t.managers)
  pub detail : Detail ts ms t.name t.managers t.state
  pub answer : is_ready t.state ≡ false → t.answer ≡ Nothing
  pub form : answer_in_range t.answer ≡ true
  pub ticks : t.ticks < wrap

-- sender and receiver live, the word in its range; a notice's sender is trapped on its receiver
pub record Post (ts : List Thread) (m : Message) : Type 0 where
  pub to_live : any (named m.to) ts ≡ true
  pub from_live : any (named m.from) ts ≡ true
  pub word : m.word < wrap
  pub notice : is_ordinary m.kind ≡ false → (t : Thread) → Memᴰ t ts → t.name ≡ m.from → awaits m.to t ≡ true

-- 0 alone has no parent; every other parent lives, and is nearer to the top
pub record Family (ts : List Thread) : Type 0 where
  pub depth : ℕ → ℕ
  pub root : (t : Thread) → Memᴰ t ts → t.name ≡ 0 → t.parent ≡ NoParent
  pub under : (t : Thread) → Memᴰ t ts → t.name ≢ 0 → (p : ℕ) × (t.parent ≡ ParentIs p) × (any (named p) ts ≡ true)
      × (depth p < depth t.name)

-- b: the blocks that there are
pub record Good (b : ℕ) (ts : List Thread) (ms : List Message) (hs : List Held) : Type 0 where
  pub family : Family ts
  pub threads : (t : Thread) → Memᴰ t ts → Right ts ms t
  pub waiters : (d : ℕ) → count (waits_for d) ts + count (held_for d) hs ≤ 1
  pub messages : (m : Message) → Memᴰ m ms → Post ts m
  pub notices : (n : ℕ) → count (notice_of n) ms ≤ 1
  pub blocks : count (λ m. is_ordinary m.kind) ms ≤ b
  pub rising : Rising ts
  pub order : chain (λ m n. leb m.to n.to) ms ≡ true
  pub held : (h : Held) → Memᴰ h hs → (h.device < devices) × (h.word < wrap)
  pub held_order : chain (λ h k. ltb h.device k.device) hs ≡ true

abbrev pub Fits : Limits → Tables → Type 0
Fits L T = Good L.blocks T.threads T.messages T.held

pub record Ruled (L : Limits) (T : Tables) : Type 0 where
  pub inv : Inv L T
  pub steady : Steady T
  pub fits : Fits L T
