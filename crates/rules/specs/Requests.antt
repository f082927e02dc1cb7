-- The nine requests to the service interface.
use Rattle.std.specs.Prelude.{ℕ, zero, suc, ◌+◌, ◌%◌, true, false, [], ◌∷◌, ◌++◌, ltb, length}
use Rattle.rules.specs.Lists.{Pulled, missing, pulled, pull, insert}
use Rattle.rules.specs.Numbers.{names}
use Rattle.rules.specs.Words.{TrapKind, Ready, Clock, Device, Nothing, Result, Manager, Unset, Set, Gone, Parent, NoParent, ParentIs}
use Rattle.rules.specs.Words.{Held, Target, Oneself, Named}
use Rattle.rules.specs.Tables.{Tables, with_last, with_threads, with_ready, with_clock, with_held, with_managers, live, of_thread}
use Rattle.rules.specs.Tables.{change, manager, set_entry, new_thread}
use Rattle.rules.specs.Waking.{Outcome, ◌handing◌, stop}
use Rattle.rules.specs.Interrupt.{held_for}
use Rattle.rules.specs.Ending.{end}

-- ---- 1 CREATEBROTHER and 2 CREATESON

-- "A new thread gets the successor, modulo 254, of the name given last; names in use are passed over": k names may be passed over
unfoldable pub free_name : ℕ → ℕ → Tables → ℕ
free_name zero n T = (n + 1) % names
free_name (suc k) n T = elim (live ((n + 1) % names) T) [ true ↦ free_name k ((n + 1) % names) T | false ↦ (n + 1) % names ]

-- no more names are passed over than there are threads
abbrev pub next_name : Tables → ℕ
next_name T = free_name (length T.threads) T.last T

-- "result: the name; no managers, count 0". The newcomer is ready.
unfoldable pub create : Parent → Tables → Outcome
create p T =
    let n = next_name T in
    with_last n (with_ready (T.ready ++ (n ∷ [])) (with_threads (insert (λ t. ltb t.name n) (new_thread n p Ready) T.threads) T))
    handing Result n

-- 1: a son of the requester's own parent
abbrev pub create_brother : ℕ → Tables → Outcome
create_brother me T = create (of_thread NoParent (λ t. t.parent) me T.threads) T

-- 2: a son of the requester
abbrev pub create_son : ℕ → Tables → Outcome
create_son me T = create (ParentIs me) T

-- ---- "3 TERMINATE (a name, or 255 for oneself; no result)"

unfoldable pub terminate : ℕ → Target → Tables → Outcome
terminate me Oneself T = end me T handing Nothing
terminate me (Named n) T = end n T handing Nothing

-- ---- "4, 5, 6 set the manager for kinds 0, 1, 2 (result 0; if that entry is set or gone, the requester ends)"

unfoldable pub set_over : Manager → ℕ → TrapKind → ℕ → Tables → Outcome
set_over Unset me k n T = change me (λ t. with_managers (set_entry k (Set n) t.managers) t) T handing Result 0
set_over (Set m) me k n T = end me T handing Nothing
set_over Gone me k n T = end me T handing Nothing

abbrev pub set_manager : ℕ → TrapKind → ℕ → Tables → Outcome
set_manager me k n T = set_over (of_thread Unset (λ t. manager k t.managers) me T.threads) me k n T

-- ---- "7 GETCPUTIME (own tick count)"

abbrev pub get_cpu_time : ℕ → Tables → Outcome
get_cpu_time me T = T handing Result (of_thread 0 (λ t. t.ticks) me T.threads)

-- ---- "8 WAITFORCLOCK"

unfoldable pub wait_for_clock : ℕ → Tables → Outcome
wait_for_clock me T = with_clock (T.clock ++ (me ∷ [])) (stop me Clock T) handing Nothing

-- ---- "9 WAITFORIO (a held status is taken at once and cleared)"

unfoldable pub take_held : ℕ → ℕ → Tables → Pulled Held → Outcome
take_held me d T missing = stop me (Device d) T handing Nothing
take_held me d T (pulled h hs) = with_held hs T handing Result h.word

abbrev pub wait_for_io : ℕ → ℕ → Tables → Outcome
wait_for_io me d T = take_held me d T (pull (held_for d) T.held)
