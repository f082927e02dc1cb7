-- The document's numbers for statuses, states, managers, kinds and answers.
use Rattle.std.specs.Prelude.{ℕ}
use Rattle.rules.specs.Numbers.{nobody, service}
use Rattle.rules.specs.Words.{TrapKind, Program, Tlb, SysBp, State, Running, Ready, Receiving, Clock, Device, Trapped, Answer}
use Rattle.rules.specs.Words.{Nothing, FromMessage, FromNotice, SenderGone, Result, Manager, Unset, Set, Gone, Parent, MessageKind}
use Rattle.rules.specs.Words.{Ordinary, Notice, Runner, Status, Working, Idle, Halted, Panicked, by_wanted, by_parent, by_runner}

-- "status (0 running, 1 idle, 2 halted, 3 panicked)"
unfoldable pub status_code : Status → ℕ
status_code Working = 0
status_code Idle = 1
status_code Halted = 2
status_code Panicked = 3

-- "slice left (0 with no runner)"
abbrev pub slice_code : Runner → ℕ
slice_code r = by_runner 0 (λ n s. s) r

-- "kind (0 none, 1 message, 2 notice, 3 sender gone, 4 service result), sender and word.
-- None is 0, 255, 0. Kind 3 has word 0; kind 4 has sender 254."
pub record Numbers : Type 0 where
  pub kind : ℕ
  pub sender : ℕ
  pub word : ℕ

unfoldable pub answer_numbers : Answer → Numbers
answer_numbers Nothing = record { kind = 0; sender = nobody; word = 0 }
answer_numbers (FromMessage n w) = record { kind = 1; sender = n; word = w }
answer_numbers (FromNotice n w) = record { kind = 2; sender = n; word = w }
answer_numbers (SenderGone n) = record { kind = 3; sender = n; word = 0 }
answer_numbers (Result w) = record { kind = 4; sender = service; word = w }

-- "kinds 0 program, 1 TLB, 2 SYS/Bp"
unfoldable pub trap_code : TrapKind → ℕ
trap_code Program = 0
trap_code Tlb = 1
trap_code SysBp = 2

-- "state (0 to 5, in the order listed above), detail (wanted name or 255; device; trap kind; else 0)"
pub record StateNumbers : Type 0 where
  pub state : ℕ
  pub detail : ℕ

unfoldable pub state_numbers : State → StateNumbers
state_numbers Running = record { state = 0; detail = 0 }
state_numbers Ready = record { state = 1; detail = 0 }
state_numbers (Receiving w) = record { state = 2; detail = by_wanted nobody (λ n. n) w }
state_numbers Clock = record { state = 3; detail = 0 }
state_numbers (Device d) = record { state = 4; detail = d }
state_numbers (Trapped k) = record { state = 5; detail = trap_code k }

-- "managers (255 none, 254 gone)"
unfoldable pub manager_code : Manager → ℕ
manager_code Unset = nobody
manager_code (Set n) = n
manager_code Gone = service

-- "parent or 255"
abbrev pub parent_code : Parent → ℕ
parent_code p = by_parent nobody (λ n. n) p

-- "kind 1 or 2"
unfoldable pub message_code : MessageKind → ℕ
message_code Ordinary = 1
message_code Notice = 2
