-- Send, and the decision of a trap's manager.
use Rattle.std.specs.Prelude.{ℕ, zero, suc, Bool, ◌&&◌, not, if◌then◌else◌}
use Rattle.rules.specs.Lists.{any, keep}
use Rattle.rules.specs.Words.{Nothing, Thread, Ordinary, Message}
use Rattle.rules.specs.Tables.{Tables, with_messages, named}
use Rattle.rules.specs.States.{awaits}
use Rattle.rules.specs.Waking.{wake_by_name, notice_of, deliver}
use Rattle.rules.specs.Ending.{end}

-- the message of a send: receiver, sender, word
abbrev pub message : ℕ → ℕ → ℕ → Message
message to me w = record { to = to; from = me; kind = Ordinary; word = w }

-- "If the receiver is trapped and the sender is the manager it waits for, the word is a decision and no message"
abbrev pub waits_for_decision : ℕ → ℕ → Thread → Bool
waits_for_decision me to t = named to t && awaits me t

-- the same, of the receiver's name
abbrev pub decides : ℕ → ℕ → Tables → Bool
decides me to T = any (waits_for_decision me to) T.threads

-- "0 continues it (it becomes ready), 1 ends it; an unread notice is discarded"
unfoldable pub decide : ℕ → ℕ → ℕ → Tables → Tables
decide me to zero T =
    wake_by_name (waits_for_decision me to) (λ t. Nothing) (with_messages (keep (λ m. not (notice_of to m)) T.messages) T)
decide me to (suc w) T = end to T

-- "Else the message joins the end of the inbox": see deliver. A decision is no message.
unfoldable pub send : ℕ → ℕ → ℕ → Tables → Tables
send me to w T = if decides me to T then decide me to w T else deliver (message to me w) T
