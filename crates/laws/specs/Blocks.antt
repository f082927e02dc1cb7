-- What is queued, received and discarded of ordinary messages.
use Rattle.std.specs.Prelude.{ℕ, ◌-◌, Bool, true, false, ◌&&◌, ◌||◌, not, List, [], if◌then◌else◌, ◌==◌}
use Rattle.rules.specs.Lists.{one_if, has, count, Pulled, missing, pulled, pull}
use Rattle.laws.specs.Words.{Limits}
use Rattle.rules.specs.Words.{by_manager}
use Rattle.rules.specs.Tables.{Tables, of_thread, manager, me}
use Rattle.rules.specs.Waking.{is_ordinary, blocks_used}
use Rattle.rules.specs.Ending.{ended_set}
use Rattle.rules.specs.Send.{decides}
use Rattle.rules.specs.Receive.{wanted_by}
use Rattle.rules.specs.Runs.{Input}
use Rattle.laws.specs.Words.{Wanted, TrapKind, Manager, Unset, Set, Gone, Message, Oneself, Named, Send, Receive, CreateBrother}
use Rattle.laws.specs.Words.{CreateSon, Terminate, SetManager, GetCpuTime, WaitForClock, WaitForIo, Trap, Event, Malformed, ByRunner}
use Rattle.laws.specs.Words.{Tick, Interrupt}
use Rattle.laws.specs.Refusals.{call_is, block_needed}
use Rattle.laws.specs.Counts.{over_run}

-- queued: a send that is no decision, and whose receiver does not wait for it
unfoldable pub queued_by : Tables → Event → ℕ
queued_by T e = one_if (block_needed T e)

unfoldable pub is_receive : (Wanted → Bool) → Event → Bool
is_receive f e = call_is (λ to w. false) f false false (λ n. false) (λ n. false) (λ d. false) e

-- is the message or notice that is handed over, if there is one, an ordinary message?
unfoldable pub is_message : Pulled Message → Bool
is_message missing = false
is_message (pulled m ms) = is_ordinary m.kind

-- received: a receive that hands an ordinary message over
unfoldable pub received_by : Tables → Event → ℕ
received_by T e = one_if (is_receive (λ w. is_message (pull (wanted_by (me T.runner) w) T.messages)) e)

-- the entry of kind k of thread n
abbrev pub entry_of : TrapKind → ℕ → Tables → Manager
entry_of k n T = of_thread Unset (λ t. manager k t.managers) n T.threads

unfoldable pub is_unset : Manager → Bool
is_unset Unset = true
is_unset (Set n) = false
is_unset Gone = false

-- the set that an event ends: a decision 1, TERMINATE, a manager set again, a trap without a manager
unfoldable pub ends : Tables → Event → List ℕ
ends T Malformed = []
ends T (ByRunner (Send to w)) = if decides (me T.runner) to T && not (w == 0) then ended_set T.threads to else []
ends T (ByRunner (Receive w)) = []
ends T (ByRunner CreateBrother) = []
ends T (ByRunner CreateSon) = []
ends T (ByRunner (Terminate Oneself)) = ended_set T.threads (me T.runner)
ends T (ByRunner (Terminate (Named n))) = ended_set T.threads n
ends T (ByRunner (SetManager k n)) = if is_unset (entry_of k (me T.runner) T) then [] else ended_set T.threads (me T.runner)
ends T (ByRunner GetCpuTime) = []
ends T (ByRunner WaitForClock) = []
ends T (ByRunner (WaitForIo d)) = []
ends T (ByRunner (Trap k c)) = by_manager (ended_set T.threads (me T.runner)) (λ n. []) (entry_of k (me T.runner) T)
ends T Tick = []
ends T (Interrupt d w) = []

-- ordinary messages to or from members of a set
unfoldable pub of_set : List ℕ → Tables → ℕ
of_set set T = count (λ m. is_ordinary m.kind && (has m.to set || has m.from set)) T.messages

-- discarded: those to or from members of the ended set
unfoldable pub discarded_by : Tables → Event → ℕ
discarded_by T e = of_set (ends T e) T

abbrev pub queued_in : Limits → Tables → Input → ℕ
queued_in L T es = over_run queued_by L T es

abbrev pub received_in : Limits → Tables → Input → ℕ
received_in L T es = over_run received_by L T es

abbrev pub discarded_in : Limits → Tables → Input → ℕ
discarded_in L T es = over_run discarded_by L T es

-- the free blocks: the limit less the ordinary messages in inboxes
abbrev pub blocks_free : Limits → Tables → ℕ
blocks_free L T = L.blocks - blocks_used T
