-- What a memory holds: rows, each with as many entries as there is room for, and their counts; and as the rules' tables.
use Rattle.std.specs.Prelude.{ℕ, suc, ◌+◌, ◌≤◌, ◌<◌, ◌≡◌, Bool, List, [], ◌∷◌, length, take, if◌then◌else◌, Option, Some, None}
use Rattle.rules.specs.Lists.{any}
use Rattle.rules.specs.Numbers.{names}
use Rattle.laws.specs.Words.{Limits}
use Rattle.laws.specs.Words.{Running, NoParent, Ordinary, Thread, Message, Held, Runner, NoRunner}
use Rattle.rules.specs.Tables.{Tables, new_thread}
use Rattle.rules.specs.Interrupt.{held_for}
use Rattle.memory.specs.Layout.{size, most_blocks}

-- room: the words that are lent. ends and ended: how many an ending has found so far, and who; between events they say nothing.
pub record Rows : Type 0 where
  pub room : ℕ
  pub limits : Limits
  pub last : ℕ
  pub runner : Runner
  pub since : ℕ
  pub beats : ℕ
  pub count : ℕ
  pub readies : ℕ
  pub clocks : ℕ
  pub letters : ℕ
  pub ends : ℕ
  pub threads : List Thread
  pub ready : List ℕ
  pub clock : List ℕ
  pub messages : List Message
  pub held : List Held
  pub ended : List ℕ

abbrev pub view : Rows → Tables
view r = record {
  last = r.last;
  runner = r.runner;
  since = r.since;
  beats = r.beats;
  threads = take r.count r.threads;
  ready = take r.readies r.ready;
  clock = take r.clocks r.clock;
  messages = take r.letters r.messages;
  held = r.held;
}

-- who an ending has found so far, in the order found
abbrev pub members : Rows → List ℕ
members r = take r.ends r.ended

-- A memory of so many words is long enough for its limits; there are names left for a newcomer, and every count is a word.
pub record Room (L : Limits) (words : ℕ) : Type 0 where
  pub long : size L ≤ words
  pub low : L.threads < names
  pub few : L.blocks ≤ most_blocks

abbrev pub Roomy : Rows → Type 0
Roomy r = Room r.limits r.room

-- and every count is within the limits
pub record CountsWithin (L : Limits) (own : Limits) (words t r c l : ℕ) : Type 0 where
  pub limits : own ≡ L
  pub roomy : Room own words
  pub threads : t ≤ L.threads
  pub ready : r ≤ L.threads
  pub clock : c ≤ L.threads
  pub messages : l ≤ L.threads + L.blocks

abbrev pub Fits : Limits → Rows → Type 0
Fits L r = CountsWithin L r.limits r.room r.count r.readies r.clocks r.letters

-- no thread, no message, no held word, no time passed
abbrev pub nothing : Tables
nothing = record { last = 0; runner = NoRunner; since = 0; beats = 0; threads = []; ready = []; clock = []; messages = []; held = [] }

-- the word that is held for a device, or 0
unfoldable pub word_for : ℕ → List Held → ℕ
word_for d [] = 0
word_for d (h ∷ hs) = if held_for d h then h.word else word_for d hs

-- the word that is held for a device, where one is
abbrev pub held_word : ℕ → List Held → Option ℕ
held_word d hs = if any (held_for d) hs then Some (word_for d hs) else None

-- what an entry behind the end would be: it is never asked for
abbrev pub no_thread : Thread
no_thread = new_thread 0 NoParent Running

abbrev pub no_message : Message
no_message = record { to = 0; from = 0; kind = Ordinary; word = 0 }

-- where the first stands that passes; the length where none does
unfoldable pub place {ℓ} : {A : Type ℓ} → (A → Bool) → List A → ℕ
place p [] = 0
place p (x ∷ xs) = if p x then 0 else suc (place p xs)

-- ---- one part changed

abbrev pub put_last : ℕ → Rows → Rows
put_last x r = record {
  room = r.room;
  limits = r.limits;
  last = x;
  runner = r.runner;
  since = r.since;
  beats = r.beats;
  count = r.count;
  readies = r.readies;
  clocks = r.clocks;
  letters = r.letters;
  ends = r.ends;
  threads = r.threads;
  ready = r.ready;
  clock = r.clock;
  messages = r.messages;
  held = r.held;
  ended = r.ended;
}

abbrev pub put_runner : Runner → Rows → Rows
put_runner x r = record {
  room = r.room;
  limits = r.limits;
  last = r.last;
  runner = x;
  since = r.since;
  beats = r.beats;
  count = r.count;
  readies = r.readies;
  clocks = r.clocks;
  letters = r.letters;
  ends = r.ends;
  threads = r.threads;
  ready = r.ready;
  clock = r.clock;
  messages = r.messages;
  held = r.held;
  ended = r.ended;
}

abbrev pub put_since : ℕ → Rows → Rows
put_since x r = record {
  room = r.room;
  limits = r.limits;
  last = r.last;
  runner = r.runner;
  since = x;
  beats = r.beats;
  count = r.count;
  readies = r.readies;
  clocks = r.clocks;
  letters = r.letters;
  ends = r.ends;
  threads = r.threads;
  ready = r.ready;
  clock = r.clock;
  messages = r.messages;
  held = r.held;
  ended = r.ended;
}

abbrev pub put_beats : ℕ → Rows → Rows
put_beats x r = record {
  room = r.room;
  limits = r.limits;
  last = r.last;
  runner = r.runner;
  since = r.since;
  beats = x;
  count = r.count;
  readies = r.readies;
  clocks = r.clocks;
  letters = r.letters;
  ends = r.ends;
  threads = r.threads;
  ready = r.ready;
  clock = r.clock;
  messages = r.messages;
  held = r.held;
  ended = r.ended;
}

abbrev pub put_count : ℕ → Rows → Rows
put_count x r = record {
  room = r.room;
  limits = r.limits;
  last = r.last;
  runner = r.runner;
  since = r.since;
  beats = r.beats;
  count = x;
  readies = r.readies;
  clocks = r.clocks;
  letters = r.letters;
  ends = r.ends;
  threads = r.threads;
  ready = r.ready;
  clock = r.clock;
  messages = r.messages;
  held = r.held;
  ended = r.ended;
}

abbrev pub put_readies : ℕ → Rows → Rows
put_readies x r = record {
  room = r.room;
  limits = r.limits;
  last = r.last;
  runner = r.runner;
  since = r.since;
  beats = r.beats;
  count = r.count;
  readies = x;
  clocks = r.clocks;
  letters = r.letters;
  ends = r.ends;
  threads = r.threads;
  ready = r.ready;
  clock = r.clock;
  messages = r.messages;
  held = r.held;
  ended = r.ended;
}

abbrev pub put_clocks : ℕ → Rows → Rows
put_clocks x r = record {
  room = r.room;
  limits = r.limits;
  last = r.last;
  runner = r.runner;
  since = r.since;
  beats = r.beats;
  count = r.count;
  readies = r.readies;
  clocks = x;
  letters = r.letters;
  ends = r.ends;
  threads = r.threads;
  ready = r.ready;
  clock = r.clock;
  messages = r.messages;
  held = r.held;
  ended = r.ended;
}

abbrev pub put_letters : ℕ → Rows → Rows
put_letters x r = record {
  room = r.room;
  limits = r.limits;
  last = r.last;
  runner = r.runner;
  since = r.since;
  beats = r.beats;
  count = r.count;
  readies = r.readies;
  clocks = r.clocks;
  letters = x;
  ends = r.ends;
  threads = r.threads;
  ready = r.ready;
  clock = r.clock;
  messages = r.messages;
  held = r.held;
  ended = r.ended;
}

abbrev pub put_ends : ℕ → Rows → Rows
put_ends x r = record {
  room = r.room;
  limits = r.limits;
  last = r.last;
  runner = r.runner;
  since = r.since;
  beats = r.beats;
  count = r.count;
  readies = r.readies;
  clocks = r.clocks;
  letters = r.letters;
  ends = x;
  threads = r.threads;
  ready = r.ready;
  clock = r.clock;
  messages = r.messages;
  held = r.held;
  ended = r.ended;
}

abbrev pub put_threads : List Thread → Rows → Rows
put_threads x r = record {
  room = r.room;
  limits = r.limits;
  last = r.last;
  runner = r.runner;
  since = r.since;
  beats = r.beats;
  count = r.count;
  readies = r.readies;
  clocks = r.clocks;
  letters = r.letters;
  ends = r.ends;
  threads = x;
  ready = r.ready;
  clock = r.clock;
  messages = r.messages;
  held = r.held;
  ended = r.ended;
}

abbrev pub put_ready : List ℕ → Rows → Rows
put_ready x r = record {
  room = r.room;
  limits = r.limits;
  last = r.last;
  runner = r.runner;
  since = r.since;
  beats = r.beats;
  count = r.count;
  readies = r.readies;
  clocks = r.clocks;
  letters = r.letters;
  ends = r.ends;
  threads = r.threads;
  ready = x;
  clock = r.clock;
  messages = r.messages;
  held = r.held;
  ended = r.ended;
}

abbrev pub put_clock : List ℕ → Rows → Rows
put_clock x r = record {
  room = r.room;
  limits = r.limits;
  last = r.last;
  runner = r.runner;
  since = r.since;
  beats = r.beats;
  count = r.count;
  readies = r.readies;
  clocks = r.clocks;
  letters = r.letters;
  ends = r.ends;
  threads = r.threads;
  ready = r.ready;
  clock = x;
  messages = r.messages;
  held = r.held;
  ended = r.ended;
}

abbrev pub put_messages : List Message → Rows → Rows
put_messages x r = record {
  room = r.room;
  limits = r.limits;
  last = r.last;
  runner = r.runner;
  since = r.since;
  beats = r.beats;
  count = r.count;
  readies = r.readies;
  clocks = r.clocks;
  letters = r.letters;
  ends = r.ends;
  threads = r.threads;
  ready = r.ready;
  clock = r.clock;
  messages = x;
  held = r.held;
  ended = r.ended;
}

abbrev pub put_held : List Held → Rows → Rows
put_held x r = record {
  room = r.room;
  limits = r.limits;
  last = r.last;
  runner = r.runner;
  since = r.since;
  beats = r.beats;
  count = r.count;
  readies = r.readies;
  clocks = r.clocks;
  letters = r.letters;
  ends = r.ends;
  threads = r.threads;
  ready = r.ready;
  clock = r.clock;
  messages = r.messages;
  held = x;
  ended = r.ended;
}

abbrev pub put_ended : List ℕ → Rows → Rows
put_ended x r = record {
  room = r.room;
  limits = r.limits;
  last = r.last;
  runner = r.runner;
  since = r.since;
  beats = r.beats;
  count = r.count;
  readies = r.readies;
  clocks = r.clocks;
  letters = r.letters;
  ends = r.ends;
  threads = r.threads;
  ready = r.ready;
  clock = r.clock;
  messages = r.messages;
  held = r.held;
  ended = x;
}

-- ---- one row changed: it stands for these entries now, and all else is as it was

pub record ReadyIs (r r' : Rows) (l : List ℕ) : Type 0 where
  pub only : r' ≡ put_readies r'.readies (put_ready r'.ready r)
  pub says : (view r').ready ≡ l
  pub counts : r'.readies ≡ length l
  pub fits : r'.readies ≤ r.limits.threads

pub record ClockIs (r r' : Rows) (l : List ℕ) : Type 0 where
  pub only : r' ≡ put_clocks r'.clocks (put_clock r'.clock r)
  pub says : (view r').clock ≡ l
  pub fits : r'.clocks ≤ r.limits.threads

-- as many threads as before
pub record ThreadsAre (r r' : Rows) (l : List Thread) : Type 0 where
  pub only : r' ≡ put_threads r'.threads r
  pub says : (view r').threads ≡ l

-- more or fewer
pub record ThreadsLeft (r r' : Rows) (l : List Thread) : Type 0 where
  pub only : r' ≡ put_count r'.count (put_threads r'.threads r)
  pub says : (view r').threads ≡ l
  pub fits : r'.count ≤ r.limits.threads

pub record MessagesAre (r r' : Rows) (l : List Message) : Type 0 where
  pub only : r' ≡ put_letters r'.letters (put_messages r'.messages r)
  pub says : (view r').messages ≡ l
  pub fits : r'.letters ≤ r.limits.threads + r.limits.blocks

pub record MembersAre (r r' : Rows) (l : List ℕ) : Type 0 where
  pub only : r' ≡ put_ends r'.ends (put_ended r'.ended r)
  pub says : members r' ≡ l
  pub counts : r'.ends ≡ length l
  pub fits : r'.ends ≤ r.limits.threads

-- threads become ready, and names join
pub record Woken (r r' : Rows) (ts : List Thread) (q : List ℕ) : Type 0 where
  pub only : r' ≡ put_readies r'.readies (put_ready r'.ready (put_threads r'.threads r))
  pub threads : (view r').threads ≡ ts
  pub ready : (view r').ready ≡ q
  pub fits : r'.readies ≤ r.limits.threads
