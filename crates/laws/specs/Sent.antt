-- Of any kind of message: what is sent, handed over by a decision, dropped, and open.
use Rattle.std.specs.Prelude.{ℕ, ◌+◌, Bool, ◌&&◌, List, [], ◌∷◌, if◌then◌else◌}
use Rattle.rules.specs.Lists.{any, has, keep, count}
use Rattle.laws.specs.Words.{Limits}
use Rattle.rules.specs.Words.{by_manager}
use Rattle.laws.specs.Words.{Thread, Message, Send, Receive, CreateBrother, CreateSon, Terminate, SetManager, GetCpuTime}
use Rattle.laws.specs.Words.{WaitForClock, WaitForIo, Trap, Event, Malformed, ByRunner, Tick, Interrupt}
use Rattle.rules.specs.Tables.{Tables, me}
use Rattle.rules.specs.Send.{message, decides}
use Rattle.rules.specs.Trap.{notice}
use Rattle.rules.specs.Step.{step}
use Rattle.rules.specs.Runs.{Input}
use Rattle.laws.specs.Counts.{over_run}
use Rattle.laws.specs.Blocks.{entry_of, ends}
use Rattle.laws.specs.Once.{discards, as_message}

-- the answer that is due to a thread is a message or notice that passes
unfoldable pub owes : (Message → Bool) → Thread → Bool
owes p t = any p (as_message t.name t.answer)

-- what an accepted event sends: a message that is no decision, or the notice of a trap, whether its receiver waits for it or not
unfoldable pub sends : Tables → Event → List Message
sends T Malformed = []
sends T (ByRunner (Send to w)) = if decides (me T.runner) to T then [] else message to (me T.runner) w ∷ []
sends T (ByRunner (Receive w)) = []
sends T (ByRunner CreateBrother) = []
sends T (ByRunner CreateSon) = []
sends T (ByRunner (Terminate n)) = []
sends T (ByRunner (SetManager k n)) = []
sends T (ByRunner GetCpuTime) = []
sends T (ByRunner WaitForClock) = []
sends T (ByRunner (WaitForIo d)) = []
sends T (ByRunner (Trap k c)) = by_manager [] (λ n. notice n (me T.runner) c ∷ []) (entry_of k (me T.runner) T)
sends T Tick = []
sends T (Interrupt d w) = []

abbrev pub sent_of : (Message → Bool) → Limits → Tables → Input → ℕ
sent_of p L T es = over_run (λ U e. count p (sends U e)) L T es

-- handed over by a decision, whatever the event was
unfoldable pub delivered_of : (Message → Bool) → Limits → Tables → Input → ℕ
delivered_of p L T [] = 0
delivered_of p L T (e ∷ es) =
    count p (as_message (step L T e).decision.runner (step L T e).decision.answer) + delivered_of p L (step L T e).tables es

-- discarded from an inbox, or due to a thread that ended
abbrev pub dropped_by : (Message → Bool) → Tables → Event → ℕ
dropped_by p T e = count p (keep (discards T e) T.messages) + count (λ t. has t.name (ends T e) && owes p t) T.threads

abbrev pub dropped_of : (Message → Bool) → Limits → Tables → Input → ℕ
dropped_of p L T es = over_run (dropped_by p) L T es

-- in an inbox, or due to a thread
abbrev pub open_of : (Message → Bool) → Tables → ℕ
open_of p T = count p T.messages + count (owes p) T.threads
