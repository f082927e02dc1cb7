-- The tables, in the order in which the dump shows them, and the start.
use Rattle.std.specs.Prelude.{ℕ, Bool, true, false, List, [], ◌∷◌, map, if◌then◌else◌, ◌==◌}
use Rattle.rules.specs.Lists.{any}
use Rattle.rules.specs.Numbers.{nobody, full_slice}
use Rattle.rules.specs.Words.{TrapKind, Program, Tlb, SysBp, State, Running, Answer, Nothing, Manager, Unset, Managers, Parent}
use Rattle.rules.specs.Words.{NoParent, Thread, Message, Held, Runner, Runs, by_runner}

-- threads by rising name; ready and clock names, front first; messages by rising receiver, oldest first; held words by rising device.
-- `last` is the name given last, `since` the ticks since the beat.
pub record Tables : Type 0 where
  pub last : ℕ
  pub runner : Runner
  pub since : ℕ
  pub beats : ℕ
  pub threads : List Thread
  pub ready : List ℕ
  pub clock : List ℕ
  pub messages : List Message
  pub held : List Held

-- ---- one part changed

abbrev pub with_last : ℕ → Tables → Tables
with_last n T = record {
  last = n;
  runner = T.runner;
  since = T.since;
  beats = T.beats;
  threads = T.threads;
  ready = T.ready;
  clock = T.clock;
  messages = T.messages;
  held = T.held;
}

abbrev pub with_runner : Runner → Tables → Tables
with_runner r T = record {
  last = T.last;
  runner = r;
  since = T.since;
  beats = T.beats;
  threads = T.threads;
  ready = T.ready;
  clock = T.clock;
  messages = T.messages;
  held = T.held;
}

abbrev pub with_time : ℕ → ℕ → Tables → Tables
with_time s b T = record {
  last = T.last;
  runner = T.runner;
  since = s;
  beats = b;
  threads = T.threads;
  ready = T.ready;
  clock = T.clock;
  messages = T.messages;
  held = T.held;
}

abbrev pub with_threads : List Thread → Tables → Tables
with_threads ts T = record {
  last = T.last;
  runner = T.runner;
  since = T.since;
  beats = T.beats;
  threads = ts;
  ready = T.ready;
  clock = T.clock;
  messages = T.messages;
  held = T.held;
}

abbrev pub with_ready : List ℕ → Tables → Tables
with_ready q T = record {
  last = T.last;
  runner = T.runner;
  since = T.since;
  beats = T.beats;
  threads = T.threads;
  ready = q;
  clock = T.clock;
  messages = T.messages;
  held = T.held;
}

abbrev pub with_clock : List ℕ → Tables → Tables
with_clock q T = record {
  last = T.last;
  runner = T.runner;
  since = T.since;
  beats = T.beats;
  threads = T.threads;
  ready = T.ready;
  clock = q;
  messages = T.messages;
  held = T.held;
}

abbrev pub with_messages : List Message → Tables → Tables
with_messages ms T = record {
  last = T.last;
  runner = T.runner;
  since = T.since;
  beats = T.beats;
  threads = T.threads;
  ready = T.ready;
  clock = T.clock;
  messages = ms;
  held = T.held;
}

abbrev pub with_held : List Held → Tables → Tables
with_held hs T = record {
  last = T.last;
  runner = T.runner;
  since = T.since;
  beats = T.beats;
  threads = T.threads;
  ready = T.ready;
  clock = T.clock;
  messages = T.messages;
  held = hs;
}

abbrev pub in_state : State → Answer → Thread → Thread
in_state s a t = record { name = t.name; parent = t.parent; state = s; managers = t.managers; ticks = t.ticks; answer = a }

abbrev pub with_managers : Managers → Thread → Thread
with_managers g t = record { name = t.name; parent = t.parent; state = t.state; managers = g; ticks = t.ticks; answer = t.answer }

abbrev pub with_ticks : ℕ → Thread → Thread
with_ticks n t = record { name = t.name; parent = t.parent; state = t.state; managers = t.managers; ticks = n; answer = t.answer }

-- ---- threads

abbrev pub named : ℕ → Thread → Bool
named n t = n == t.name

abbrev pub live : ℕ → Tables → Bool
live n T = any (named n) T.threads

-- something of the thread of that name. It is asked only of live names, so `other` is never the answer.
unfoldable pub of_thread : {A : Type 0} → A → (Thread → A) → ℕ → List Thread → A
of_thread other f n [] = other
of_thread other f n (t ∷ ts) = if named n t then f t else of_thread other f n ts

-- the thread of that name changed by f, the others as they are
unfoldable pub change : ℕ → (Thread → Thread) → Tables → Tables
change n f T = with_threads (map (λ t. if named n t then f t else t) T.threads) T

unfoldable pub manager : TrapKind → Managers → Manager
manager Program g = g.program
manager Tlb g = g.tlb
manager SysBp g = g.sysbp

unfoldable pub set_entry : TrapKind → Manager → Managers → Managers
set_entry Program m g = record { program = m; tlb = g.tlb; sysbp = g.sysbp }
set_entry Tlb m g = record { program = g.program; tlb = m; sysbp = g.sysbp }
set_entry SysBp m g = record { program = g.program; tlb = g.tlb; sysbp = m }

-- "no managers, count 0"
abbrev pub new_thread : ℕ → Parent → State → Thread
new_thread n p s = record {
  name = n;
  parent = p;
  state = s;
  managers = record { program = Unset; tlb = Unset; sysbp = Unset };
  ticks = 0;
  answer = Nothing;
}

-- ---- the runner

unfoldable pub runs : Runner → Bool
runs r = by_runner false (λ n s. true) r

unfoldable pub runs_as : ℕ → Runner → Bool
runs_as n r = by_runner false (λ m s. n == m) r

-- "runner or 255"; the name in events of the runner, who is there then
unfoldable pub me : Runner → ℕ
me r = by_runner nobody (λ n s. n) r

-- ---- "the first thread is 0", and P10 shows the rest
abbrev pub start : Tables
start = record {
  last = 0;
  runner = Runs 0 full_slice;
  since = 0;
  beats = 0;
  threads = new_thread 0 NoParent Running ∷ [];
  ready = [];
  clock = [];
  messages = [];
  held = [];
}
