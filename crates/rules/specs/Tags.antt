-- The one table of document 01 that step and program share: "Event tags", and the services with their argument rules. Then the fields of
-- a dump. Every tag and every length of a field stands here once.
use Rattle.std.specs.declared.option.Option.{Option}
use Rattle.std.specs.Prelude.{Some, None, ℕ, suc, Bool, true, false, List, [], ◌∷◌, ltb, if◌then◌else◌, ◌==◌}
use Rattle.rules.specs.Numbers.{devices, nobody}
use Rattle.rules.specs.Words.{Program, Tlb, SysBp, Target, Oneself, Named, Call, CreateBrother, CreateSon, Terminate, SetManager}
use Rattle.rules.specs.Words.{GetCpuTime, WaitForClock, WaitForIo, EventField, DumpField, Argument, NoService, Zero, AnyName, ADevice}

-- ---- events

abbrev pub send_tag : ℕ
send_tag = 16

abbrev pub receive_tag : ℕ
receive_tag = 17

abbrev pub request_tag : ℕ
request_tag = 18

abbrev pub trap_tag : ℕ
trap_tag = 19

abbrev pub tick_tag : ℕ
tick_tag = 20

abbrev pub interrupt_tag : ℕ
interrupt_tag = 21

-- a row for each tag: its number, the length of its value, and whether it needs a runner
pub record Row : Type 0 where
  pub tag : ℕ
  pub length : ℕ
  pub runner : Bool

-- "16 send (name 1, word 4), 17 receive (name 1), 18 request (service 1, argument 1), 19 trap (kind 1, cause 4), 20 tick (empty),
-- 21 interrupt (pending devices 8, ..; status 4). Tags 16 to 19 need a runner."
abbrev pub rows : List Row
rows =
    record { tag = send_tag; length = 5; runner = true }
    ∷ record { tag = receive_tag; length = 1; runner = true }
    ∷ record { tag = request_tag; length = 2; runner = true }
    ∷ record { tag = trap_tag; length = 5; runner = true }
    ∷ record { tag = tick_tag; length = 0; runner = false }
    ∷ record { tag = interrupt_tag; length = 12; runner = false }
    ∷ []

-- what the table says of a tag: that it is known, its length, its need of a runner
pub record TagFacts : Type 0 where
  pub known : Bool
  pub length : ℕ
  pub runner : Bool

unfoldable pub facts_in : List Row → ℕ → TagFacts
facts_in [] n = record { known = false; length = 0; runner = false }
facts_in (r ∷ rs) n = let later =
    facts_in rs n in if n == r.tag then record { known = true; length = r.length; runner = r.runner } else later

-- "These facts stand in one table that step and program share"
unfoldable pub tag_facts : ℕ → TagFacts
tag_facts n = facts_in rows n

-- the same as the code has it: nothing of a tag that is not known
unfoldable pub event_field : TagFacts → Option EventField
event_field f = if f.known then Some (record { length = f.length; runner = f.runner }) else None

-- ---- services

-- "255 for oneself" in request 3
abbrev pub target : ℕ → Target
target n = if n == nobody then Oneself else Named n

-- a service: its number, its argument rule, and what is asked with an argument
pub record Service : Type 0 where
  pub number : ℕ
  pub rule : Argument
  pub asks : ℕ → Call

-- "The argument of 1, 2, 7 and 8 is 0"; 3 to 6 have a name, which refusal 4 judges; 9 has a device
abbrev pub services : List Service
services =
    record { number = 1; rule = Zero; asks = λ a. CreateBrother }
    ∷ record { number = 2; rule = Zero; asks = λ a. CreateSon }
    ∷ record { number = 3; rule = AnyName; asks = λ a. Terminate (target a) }
    ∷ record { number = 4; rule = AnyName; asks = λ a. SetManager Program a }
    ∷ record { number = 5; rule = AnyName; asks = λ a. SetManager Tlb a }
    ∷ record { number = 6; rule = AnyName; asks = λ a. SetManager SysBp a }
    ∷ record { number = 7; rule = Zero; asks = λ a. GetCpuTime }
    ∷ record { number = 8; rule = Zero; asks = λ a. WaitForClock }
    ∷ record { number = 9; rule = ADevice; asks = λ a. WaitForIo a }
    ∷ []

-- "argument rules too"
unfoldable pub rule_in : List Service → ℕ → Argument
rule_in [] n = NoService
rule_in (s ∷ ss) n = let later = rule_in ss n in if n == s.number then s.rule else later

-- "service not 1 to 9" has the rule NoService
unfoldable pub argument_rule : ℕ → Argument
argument_rule n = rule_in services n

-- does an argument meet a rule?
unfoldable pub meets : Argument → ℕ → Bool
meets NoService a = false
meets Zero a = a == 0
meets AnyName a = true
meets ADevice a = ltb a devices

-- ---- the fields of a dump

-- "a tag byte, a two-byte length" stand before a value
abbrev pub before_value : ℕ
before_value = 3

-- "1: status, .., beats (4); length 9."
abbrev pub head_tag : ℕ
head_tag = 1

abbrev pub head_size : ℕ
head_size = 9

-- "2, per thread by rising name: .. length 17."
abbrev pub thread_tag : ℕ
thread_tag = 2

abbrev pub thread_size : ℕ
thread_size = 17

-- "3: ready names, front first. 4: clock waiters, in order.": as long as there are names
abbrev pub ready_tag : ℕ
ready_tag = 3

abbrev pub clock_tag : ℕ
clock_tag = 4

-- "5, per message ..: receiver, sender, kind 1 or 2, word (4)."
abbrev pub message_tag : ℕ
message_tag = 5

abbrev pub message_size : ℕ
message_size = 7

-- "6, per held status ..: device, word (4)."
abbrev pub held_tag : ℕ
held_tag = 6

abbrev pub held_size : ℕ
held_size = 5

-- a row for each field of a dump: its tag, whether its length is fixed and what it is then, and whether the field stands exactly once
pub record DumpRow : Type 0 where
  pub tag : ℕ
  pub sized : Bool
  pub length : ℕ
  pub once : Bool

-- "Fields in this order. .. Fields 3 and 4 always stand."
abbrev pub dump_rows : List DumpRow
dump_rows =
    record { tag = head_tag; sized = true; length = head_size; once = true }
    ∷ record { tag = thread_tag; sized = true; length = thread_size; once = false }
    ∷ record { tag = ready_tag; sized = false; length = 0; once = true }
    ∷ record { tag = clock_tag; sized = false; length = 0; once = true }
    ∷ record { tag = message_tag; sized = true; length = message_size; once = false }
    ∷ record { tag = held_tag; sized = true; length = held_size; once = false }
    ∷ []

-- what the table says of a field's tag: that it is known, the field's place, whether its length is fixed, the length, whether it stands once
pub record DumpFacts : Type 0 where
  pub known : Bool
  pub place : ℕ
  pub sized : Bool
  pub length : ℕ
  pub once : Bool

-- what the rows from a place on say of a tag; one that is not among them has its place behind them all
unfoldable pub dump_facts_in : ℕ → List DumpRow → ℕ → DumpFacts
dump_facts_in place [] n = record { known = false; place = place; sized = false; length = 0; once = false }
dump_facts_in place (r ∷ rs) n =
    let later = dump_facts_in (suc place) rs n in
    if n == r.tag then record { known = true; place = place; sized = r.sized; length = r.length; once = r.once } else later

unfoldable pub dump_facts : ℕ → DumpFacts
dump_facts n = dump_facts_in 0 dump_rows n

-- the same as the code has it: nothing of a tag that is not known, and a length where it is fixed
unfoldable pub dump_field : DumpFacts → Option DumpField
dump_field f =
    if f.known then Some (record { place = f.place; length = if f.sized then Some f.length else None; once = f.once }) else None
