-- Of any kind of message: what is queued, handed over, discarded, and waits.
use Rattle.std.specs.Prelude.{ℕ, ◌+◌, Bool, true, ◌&&◌, ◌||◌, List, [], ◌∷◌, if◌then◌else◌, ◌==◌}
use Rattle.rules.specs.Lists.{any, has, keep, count}
use Rattle.laws.specs.Words.{Limits}
use Rattle.rules.specs.Words.{by_manager}
use Rattle.laws.specs.Words.{Answer, Nothing, FromMessage, FromNotice, SenderGone, Result, Message, Send, Receive, CreateBrother}
use Rattle.laws.specs.Words.{CreateSon, Terminate, SetManager, GetCpuTime, WaitForClock, WaitForIo, Trap, Event, Malformed, ByRunner}
use Rattle.laws.specs.Words.{Tick, Interrupt, Decision}
use Rattle.rules.specs.Tables.{Tables, me}
use Rattle.rules.specs.Waking.{notice_of, accepts}
use Rattle.rules.specs.Send.{message, decides}
use Rattle.rules.specs.Trap.{notice}
use Rattle.rules.specs.Events.{decode}
use Rattle.rules.specs.Step.{step}
use Rattle.rules.specs.Runs.{Input}
use Rattle.laws.specs.Refusals.{is_send}
use Rattle.laws.specs.Counts.{over_run}
use Rattle.laws.specs.Blocks.{is_receive, entry_of, ends}

-- a message or notice joins the inbox of its receiver unless this waits for it
abbrev pub unless_awaited : Message → Tables → List Message
unless_awaited m T = if any (accepts m) T.threads then [] else m ∷ []

-- what an accepted event queues: a send that is no decision, or the notice of a trap
unfoldable pub queues : Tables → Event → List Message
queues T Malformed = []
queues T (ByRunner (Send to w)) = if decides (me T.runner) to T then [] else unless_awaited (message to (me T.runner) w) T
queues T (ByRunner (Receive w)) = []
queues T (ByRunner CreateBrother) = []
queues T (ByRunner CreateSon) = []
queues T (ByRunner (Terminate n)) = []
queues T (ByRunner (SetManager k n)) = []
queues T (ByRunner GetCpuTime) = []
queues T (ByRunner WaitForClock) = []
queues T (ByRunner (WaitForIo d)) = []
queues T (ByRunner (Trap k c)) = by_manager [] (λ n. unless_awaited (notice n (me T.runner) c) T) (entry_of k (me T.runner) T)
queues T Tick = []
queues T (Interrupt d w) = []

-- what an accepted event discards of the messages and notices that wait: those to or from members of the set that it ends, and by the
-- decision 0 the notice of the thread that it continues
unfoldable pub discards : Tables → Event → Message → Bool
discards T e m =
    is_send (λ to w. decides (me T.runner) to T && w == 0 && notice_of to m) e || (has m.to (ends T e) || has m.from (ends T e))

-- the message or notice that an answer is to its thread
unfoldable pub as_message : ℕ → Answer → List Message
as_message n Nothing = []
as_message n (FromMessage s w) = message n s w ∷ []
as_message n (FromNotice s c) = notice n s c ∷ []
as_message n (SenderGone s) = []
as_message n (Result w) = []

-- what an event hands over from an inbox: it is a receive, and the runner goes on with a message or notice in the decision. (A receive
-- that waits lets another run. What that one is handed is due to it, and is in no inbox.)
unfoldable pub hands : Tables → Event → Decision → List Message
hands T e d = if is_receive (λ w. true) e && d.runner == me T.runner then as_message d.runner d.answer else []

abbrev pub queued_of : (Message → Bool) → Limits → Tables → Input → ℕ
queued_of p L T es = over_run (λ U e. count p (queues U e)) L T es

abbrev pub discarded_of : (Message → Bool) → Limits → Tables → Input → ℕ
discarded_of p L T es = over_run (λ U e. count p (keep (discards U e) U.messages)) L T es

unfoldable pub handed_of : (Message → Bool) → Limits → Tables → Input → ℕ
handed_of p L T [] = 0
handed_of p L T (e ∷ es) = count p (hands T (decode e) (step L T e).decision) + handed_of p L (step L T e).tables es

abbrev pub waiting_of : (Message → Bool) → Tables → ℕ
waiting_of p T = count p T.messages
