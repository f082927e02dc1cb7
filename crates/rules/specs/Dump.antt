-- The dump: the tables as bytes.
use Rattle.std.specs.Prelude.{ℕ, List, ◌∷◌, ◌++◌, length}
use Rattle.rules.specs.Lists.{each, two_bytes, four_bytes}
use Rattle.rules.specs.Words.{Answer, Thread, Message, Held}
use Rattle.rules.specs.Tables.{Tables, me}
use Rattle.rules.specs.Dispatch.{status}
use Rattle.rules.specs.Tags.{head_tag, thread_tag, ready_tag, clock_tag, message_tag, held_tag}
use Rattle.rules.specs.Codes.{status_code, slice_code, answer_numbers, state_numbers, manager_code, parent_code, message_code}

-- "A field is a tag byte, a two-byte length, then the value"
abbrev pub field : ℕ → List ℕ → List ℕ
field tag v = tag ∷ (two_bytes (length v) ++ v)

-- "1: status, name given last, runner or 255, slice left (0 with no runner), ticks since the beat (0 to 19), beats (4); length 9."
unfoldable pub head_value : Tables → List ℕ
head_value T = status_code (status T) ∷ T.last ∷ me T.runner ∷ slice_code T.runner ∷ T.since ∷ four_bytes T.beats

-- "answer waiting: kind, sender, word (4)"
abbrev pub answer_value : Answer → List ℕ
answer_value a = let n = answer_numbers a in n.kind ∷ n.sender ∷ four_bytes n.word

-- "2, per thread by rising name: name, parent or 255, state .., detail .., managers (255 none, 254 gone), count (4), answer waiting ..;
-- length 17."
unfoldable pub thread_value : Thread → List ℕ
thread_value t =
    let s = state_numbers t.state in
    let g = t.managers in
    t.name ∷ parent_code t.parent ∷ s.state ∷ s.detail
    ∷ manager_code g.program ∷ manager_code g.tlb ∷ manager_code g.sysbp
    ∷ (four_bytes t.ticks ++ answer_value t.answer)

-- "5, per message by rising receiver, oldest first: receiver, sender, kind 1 or 2, word (4)."
unfoldable pub message_value : Message → List ℕ
message_value m = m.to ∷ m.from ∷ message_code m.kind ∷ four_bytes m.word

-- "6, per held status by rising device: device, word (4)."
unfoldable pub held_value : Held → List ℕ
held_value h = h.device ∷ four_bytes h.word

-- "3: ready names, front first. 4: clock waiters, in order. .. Fields 3 and 4 always stand."
unfoldable pub dump : Tables → List ℕ
dump T =
    field head_tag (head_value T)
    ++ each (λ t. field thread_tag (thread_value t)) T.threads
    ++ field ready_tag T.ready
    ++ field clock_tag T.clock
    ++ each (λ m. field message_tag (message_value m)) T.messages
    ++ each (λ h. field held_tag (held_value h)) T.held
