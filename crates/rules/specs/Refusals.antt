-- Refusals: one ordered list of tests, each with its number.
use Rattle.std.specs.Prelude.{ℕ, Bool, true, false, ◌&&◌, not, List, [], ◌∷◌, leb, ltb, length, if◌then◌else◌, ◌==◌}
use Rattle.rules.specs.Lists.{any}
use Rattle.rules.specs.Numbers.{Limits}
use Rattle.rules.specs.Words.{Wanted, Status, Working, Idle, Halted, Panicked, Target, Oneself, Named, Call, Send, Receive}
use Rattle.rules.specs.Words.{CreateBrother, CreateSon, Terminate, SetManager, GetCpuTime, WaitForClock, WaitForIo, Trap, Event}
use Rattle.rules.specs.Words.{Malformed, ByRunner, Tick, Interrupt, by_wanted}
use Rattle.rules.specs.Tables.{Tables, live, runs, me}
use Rattle.rules.specs.States.{waits_for}
use Rattle.rules.specs.Waking.{blocks_used, accepts}
use Rattle.rules.specs.Send.{message, decides}
use Rattle.rules.specs.Dispatch.{status}

-- a rule: its number is given where its test holds
pub record Rule : Type 0 where
  pub holds : Bool
  pub number : ℕ

-- "no." and "given exactly when"
infix 20 ◌refuses◌
abbrev pub ◌refuses◌ : Bool → ℕ → Rule
b refuses n = record { holds = b; number = n }

-- "They are tried in this order": the number of the first rule that holds, or 0
unfoldable pub first_of : List Rule → ℕ
first_of [] = 0
first_of (r ∷ rs) = if r.holds then r.number else first_of rs

-- 1: "an event comes when halted or panicked"
unfoldable pub over : Status → Bool
over Working = false
over Idle = false
over Halted = true
over Panicked = true

-- 2: what the bytes say alone (Events.antt)
unfoldable pub is_malformed : Event → Bool
is_malformed Malformed = true
is_malformed (ByRunner c) = false
is_malformed Tick = false
is_malformed (Interrupt d w) = false

-- 3: "Tags 16 to 19 need a runner"
unfoldable pub needs_runner : Event → Bool
needs_runner Malformed = false
needs_runner (ByRunner c) = true
needs_runner Tick = false
needs_runner (Interrupt d w) = false

-- 4: "the name (send, receive, 3 to 6) is no live thread's, 255 in receive and in request 3 excepted"
abbrev pub wants_nobody : Tables → Wanted → Bool
wants_nobody T w = by_wanted false (λ n. not (live n T)) w

-- "255 .. in request 3 excepted"
unfoldable pub ends_nobody : Tables → Target → Bool
ends_nobody T Oneself = false
ends_nobody T (Named n) = not (live n T)

-- 5: "a block is needed": the send is no decision, and the receiver does not wait for it
abbrev pub needs_block : ℕ → ℕ → ℕ → Tables → Bool
needs_block me to w T = not (decides me to T) && not (any (accepts (message to me w)) T.threads)

-- "none is free": "20 less that number are free" (Blocks)
abbrev pub no_block_free : Limits → Tables → Bool
no_block_free L T = leb L.blocks (blocks_used T)

-- 6: "no thread block is free"
abbrev pub no_thread_free : Limits → Tables → Bool
no_thread_free L T = leb L.threads (length T.threads)

-- the rules that a call of the runner `me` can meet, in the order of the list: 4, 9, 5, 7, 6, 10, 8
unfoldable pub call_rules : Limits → Tables → ℕ → Call → List Rule
call_rules L T me (Send to w) =
    (not (live to T) refuses 4)
    ∷ (decides me to T && ltb 1 w refuses 9)
    ∷ (needs_block me to w T && no_block_free L T refuses 5)
    ∷ []
call_rules L T me (Receive w) = (wants_nobody T w refuses 4) ∷ []
call_rules L T me CreateBrother = (me == 0 refuses 7) ∷ (no_thread_free L T refuses 6) ∷ []
call_rules L T me CreateSon = (no_thread_free L T refuses 6) ∷ []
call_rules L T me (Terminate n) = (ends_nobody T n refuses 4) ∷ []
call_rules L T me (SetManager k n) = (not (live n T) refuses 4) ∷ (n == me refuses 10) ∷ []
call_rules L T me GetCpuTime = []
call_rules L T me WaitForClock = []
call_rules L T me (WaitForIo d) = (any (waits_for d) T.threads refuses 8) ∷ []
call_rules L T me (Trap k c) = []

-- what the tables say against an event; tick and interrupt meet none of these
unfoldable pub own_rules : Limits → Tables → Event → List Rule
own_rules L T Malformed = []
own_rules L T (ByRunner c) = call_rules L T (me T.runner) c
own_rules L T Tick = []
own_rules L T (Interrupt d w) = []

-- the list for one event: 1, 2, 3, then its own
abbrev pub refusals : Limits → Tables → Event → List Rule
refusals L T e =
    (over (status T) refuses 1)
    ∷ (is_malformed e refuses 2)
    ∷ (needs_runner e && not (runs T.runner) refuses 3)
    ∷ own_rules L T e

-- 0: accepted
unfoldable pub refusal : Limits → Tables → Event → ℕ
refusal L T e = first_of (refusals L T e)
