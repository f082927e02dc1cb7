-- The moves that events share: threads become ready, a message or notice goes to a thread, the runner stops.
use Rattle.std.specs.Prelude.{ℕ, Bool, true, false, ◌&&◌, not, List, [], ◌∷◌, ◌++◌, map, leb, if◌then◌else◌, ◌==◌}
use Rattle.rules.specs.Lists.{any, keep, count, insert}
use Rattle.rules.specs.Words.{State, Ready, Answer, Nothing, FromMessage, FromNotice, Thread, MessageKind, Ordinary, Notice, Message}
use Rattle.rules.specs.Words.{NoRunner}
use Rattle.rules.specs.Tables.{Tables, with_runner, with_threads, with_ready, with_messages, in_state, named, change}
use Rattle.rules.specs.States.{receives}

-- what an event leaves: the tables, and the answer handed to a runner that goes on
pub record Outcome : Type 0 where
  pub tables : Tables
  pub answer : Answer

-- these tables, and this answer for a runner that goes on
infix 10 ◌handing◌
abbrev pub ◌handing◌ : Tables → Answer → Outcome
T handing a = record { tables = T; answer = a }

-- "Threads join the ready queue at its tail": those that pass become ready, each with its answer, and the names given join the queue
unfoldable pub wake_those : (Thread → Bool) → (Thread → Answer) → List ℕ → Tables → Tables
wake_those p a ns T = with_ready (T.ready ++ ns) (with_threads (map (λ t. if p t then in_state Ready (a t) t else t) T.threads) T)

-- the same "in rising order of name"
abbrev pub wake_by_name : (Thread → Bool) → (Thread → Answer) → Tables → Tables
wake_by_name p a T = wake_those p a (map (λ t. t.name) (keep p T.threads)) T

-- one thread "becomes ready", "at its tail"
abbrev pub wake : ℕ → Answer → Tables → Tables
wake n a T = wake_those (named n) (λ t. a) (n ∷ []) T

-- ---- messages

unfoldable pub is_ordinary : MessageKind → Bool
is_ordinary Ordinary = true
is_ordinary Notice = false

-- ordinary messages in inboxes: the blocks that are not free
abbrev pub blocks_used : Tables → ℕ
blocks_used T = count (λ m. is_ordinary m.kind) T.messages

-- the notice of thread n
abbrev pub notice_of : ℕ → Message → Bool
notice_of n m = not (is_ordinary m.kind) && m.from == n

-- "kind (.. 1 message, 2 notice ..), sender and word"
unfoldable pub handed_as : MessageKind → ℕ → ℕ → Answer
handed_as Ordinary n w = FromMessage n w
handed_as Notice n w = FromNotice n w

-- a message as the answer of the thread that gets it
abbrev pub handed : Message → Answer
handed m = handed_as m.kind m.from m.word

-- "the receiver waits for this sender or for anybody"
abbrev pub accepts : Message → Thread → Bool
accepts m t = named m.to t && receives m.from t.state

-- "the message joins the end of the inbox"
unfoldable pub queue : Message → Tables → Tables
queue m T = with_messages (insert (λ x. leb x.to m.to) m T.messages) T

-- "it gets the message as its answer and becomes ready .. Else the message joins the end of the inbox"
unfoldable pub deliver : Message → Tables → Tables
deliver m T = if any (accepts m) T.threads then wake_by_name (accepts m) (λ t. handed m) T else queue m T

-- the runner waits in a state; nobody runs
unfoldable pub stop : ℕ → State → Tables → Tables
stop me s T = with_runner NoRunner (change me (in_state s Nothing) T)
