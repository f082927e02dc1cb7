-- What the words of the memory say. Every word says something. A word that would not be written for what it says (a name that is no byte,
-- a detail where there is none) says something that no table rule allows, so that a flipped bit is found by the table rules alone.
use Rattle.std.specs.Prelude.{ℕ, ◌+◌, ◌-◌, ◌&&◌, List, [], ◌∷◌, ltb, get_or, if◌then◌else◌, ◌==◌}
use Rattle.rules.specs.Numbers.{nobody}
use Rattle.laws.specs.Words.{Wanted, Anybody, Only, Program, Tlb, SysBp, State, Running, Ready, Receiving, Clock, Device, Trapped}
use Rattle.laws.specs.Words.{Answer, Nothing, FromMessage, FromNotice, SenderGone, Result, Manager, Unset, Set, Gone, Parent}
use Rattle.laws.specs.Words.{NoParent, ParentIs, Thread, MessageKind, Ordinary, Notice, Message, Held, Runner, NoRunner, Runs}

abbrev pub word : List ℕ → ℕ → ℕ
word m k = get_or m k 0

-- ---- numbers in words

-- the first word that is no byte: "no name" where a name can stand, and what is added to the sender of a notice
abbrev pub past_bytes : ℕ
past_bytes = 256

-- a name, a device or a small number. A word that is no byte says 255: no thread's name, no device, no slice and no ticks since a beat.
abbrev pub byte : ℕ → ℕ
byte w = if ltb w past_bytes then w else nobody

-- ---- threads

abbrev pub parent_in : ℕ → Parent
parent_in w = if w == past_bytes then NoParent else ParentIs (byte w)

-- "gone" is the word behind "no name"
abbrev pub manager_in : ℕ → Manager
manager_in w = if w == past_bytes then Unset else (if w == past_bytes + 1 then Gone else Set (byte w))

abbrev pub wanted_in : ℕ → Wanted
wanted_in w = if w == past_bytes then Anybody else Only (byte w)

-- no device has this number
abbrev pub wrong_state : State
wrong_state = Device nobody

abbrev pub trapped_in : ℕ → State
trapped_in d = if d == 0 then Trapped Program else (if d == 1 then Trapped Tlb else (if d == 2 then Trapped SysBp else wrong_state))

-- a state that has no detail is written with the detail 0
abbrev pub without_detail : State → ℕ → State
without_detail s d = if d == 0 then s else wrong_state

unfoldable pub state_in : ℕ → ℕ → State
state_in w d =
    if w == 0 then without_detail Running d else (
    if w == 1 then without_detail Ready d else (
    if w == 2 then Receiving (wanted_in d) else (
    if w == 3 then without_detail Clock d else (
    if w == 4 then Device (byte d) else (
    if w == 5 then trapped_in d else (
    wrong_state))))))

-- no answer has this sender
abbrev pub wrong_answer : Answer
wrong_answer = FromMessage nobody 0

unfoldable pub answer_in : ℕ → ℕ → ℕ → Answer
answer_in k s w =
    if k == 0 then (if (s == 0) && (w == 0) then Nothing else wrong_answer) else (
    if k == 1 then FromMessage (byte s) w else (
    if k == 2 then FromNotice (byte s) w else (
    if k == 3 then (if w == 0 then SenderGone (byte s) else wrong_answer) else (
    if k == 4 then (if s == 0 then Result w else wrong_answer) else (
    wrong_answer)))))

-- the eleven words of a thread: name, parent, state, detail, three managers, ticks, and its answer's kind, sender and word
unfoldable pub thread_in : List ℕ → Thread
thread_in w =
    record {
      name = byte (word w 0);
      parent = parent_in (word w 1);
      state = state_in (word w 2) (word w 3);
      managers = record { program = manager_in (word w 4); tlb = manager_in (word w 5); sysbp = manager_in (word w 6) };
      ticks = word w 7;
      answer = answer_in (word w 8) (word w 9) (word w 10);
    }

-- ---- messages: receiver, sender with the kind, word

-- the sender of a message, or of a notice behind all bytes
abbrev pub sender_in : ℕ → ℕ
sender_in w = if ltb w past_bytes then w else byte (w - past_bytes)

abbrev pub kind_in : ℕ → MessageKind
kind_in w = if ltb w past_bytes then Ordinary else Notice

unfoldable pub message_in : List ℕ → Message
message_in w = record { to = byte (word w 0); from = sender_in (word w 1); kind = kind_in (word w 1); word = word w 2 }

-- ---- held words: two words for each device, 1 and the word, or 0
unfoldable pub held_in : ℕ → ℕ → ℕ → List Held
held_in d f w = if f == 0 then [] else (if f == 1 then record { device = d; word = w } ∷ [] else record { device = nobody; word = w } ∷ [])

-- ---- the runner and its slice; "no name" and 0 where nobody runs
unfoldable pub runner_in : ℕ → ℕ → Runner
runner_in n s = if (n == past_bytes) && (s == 0) then NoRunner else Runs (byte n) (byte s)
