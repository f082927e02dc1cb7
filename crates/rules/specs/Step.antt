-- The step: what each event does, and the decision.
use Rattle.std.specs.Prelude.{ℕ, zero, suc, List}
use Rattle.rules.specs.Numbers.{Limits}
use Rattle.rules.specs.Words.{Nothing, Call, Send, Receive, CreateBrother, CreateSon, Terminate, SetManager, GetCpuTime, WaitForClock}
use Rattle.rules.specs.Words.{WaitForIo, Trap, Event, Malformed, ByRunner, Tick, Interrupt, Decision}
use Rattle.rules.specs.Tables.{Tables, me}
use Rattle.rules.specs.Waking.{Outcome, ◌handing◌}
use Rattle.rules.specs.Events.{decode}
use Rattle.rules.specs.Refusals.{refusal}
use Rattle.rules.specs.Send.{send}
use Rattle.rules.specs.Receive.{receive}
use Rattle.rules.specs.Trap.{trap}
use Rattle.rules.specs.Tick.{tick}
use Rattle.rules.specs.Interrupt.{interrupt}
use Rattle.rules.specs.Requests.{create_brother, create_son, terminate, set_manager, get_cpu_time, wait_for_clock, wait_for_io}
use Rattle.rules.specs.Dispatch.{dispatch, status}
use Rattle.rules.specs.Codes.{status_code}

-- a call of the runner `me`
unfoldable pub serve : ℕ → Tables → Call → Outcome
serve me T (Send to w) = send me to w T handing Nothing
serve me T (Receive w) = receive me w T
serve me T CreateBrother = create_brother me T
serve me T CreateSon = create_son me T
serve me T (Terminate n) = terminate me n T
serve me T (SetManager k n) = set_manager me k n T
serve me T GetCpuTime = get_cpu_time me T
serve me T WaitForClock = wait_for_clock me T
serve me T (WaitForIo d) = wait_for_io me d T
serve me T (Trap k c) = trap me k c T handing Nothing

-- what an accepted event does before dispatch
unfoldable pub act : Tables → Event → Outcome
act T Malformed = T handing Nothing
act T (ByRunner c) = serve (me T.runner) T c
act T Tick = tick T handing Nothing
act T (Interrupt d w) = interrupt d w T handing Nothing

-- what a step leaves
pub record Stepped : Type 0 where
  pub tables : Tables
  pub decision : Decision

-- "A decision has refusal, status .., runner or 255, and the answer now handed over"
abbrev pub decided : ℕ → Outcome → Stepped
decided r o = record {
  tables = o.tables;
  decision = record { refusal = r; status = status_code (status o.tables); runner = me o.tables.runner; answer = o.answer };
}

-- "A refused event returns the number, status and runner as they stand and no answer"
unfoldable pub settle : ℕ → Tables → Event → Stepped
settle zero T e = decided 0 (dispatch (act T e))
settle (suc r) T e = decided (suc r) (T handing Nothing)

-- one event, given by the bytes of its field
unfoldable pub step : Limits → Tables → List ℕ → Stepped
step L T bytes = let e = decode bytes in settle (refusal L T e) T e
