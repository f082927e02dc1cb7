-- Numbers and lines as text, in ASCII.
use Rattle.std.specs.Prelude.{ℕ, zero, suc, ◌+◌, ◌/◌, ◌%◌, List, [], ◌∷◌, ◌++◌, ltb, if◌then◌else◌}
use Rattle.rules.specs.Lists.{each}
use Rattle.rules.specs.Tables.{Tables, me}
use Rattle.rules.specs.Dispatch.{status}
use Rattle.rules.specs.Codes.{status_code, slice_code, answer_numbers, state_numbers, manager_code, parent_code, message_code}
use Rattle.rules.specs.Tags.{head_tag, thread_tag, ready_tag, clock_tag, message_tag, held_tag}
use Rattle.rules.specs.declared.Status.{Status}
use Rattle.rules.specs.declared.Status.TheVariants.{Running, Idle, Halted, Panicked}
use Rattle.rules.specs.declared.Decision.{Decision}
use Rattle.rules.specs.declared.Thread.{Thread}
use Rattle.rules.specs.declared.Message.{Message}
use Rattle.rules.specs.declared.Held.{Held}

-- a number in at most k decimal digits, the first digit first
unfoldable pub decimal_in : ℕ → ℕ → List ℕ
decimal_in zero n = []
decimal_in (suc k) n = if ltb n 10 then (48 + n) ∷ [] else decimal_in k (n / 10) ++ ((48 + n % 10) ∷ [])

-- no number of 64 bits has more than 20 digits
abbrev pub decimal : ℕ → List ℕ
decimal n = decimal_in 20 n

-- "in decimal with single spaces": a line of numbers
unfoldable pub numbers_line : List ℕ → List ℕ
numbers_line [] = 10 ∷ []
numbers_line (n ∷ ns) = decimal n ++ each (λ m. 32 ∷ decimal m) ns ++ (10 ∷ [])

-- "one line: line number from 1, refusal, status, runner, kind, sender, word"
abbrev pub line : ℕ → Decision → List ℕ
line k d = let a = answer_numbers d.answer in numbers_line (k ∷ d.refusal ∷ d.status ∷ d.runner ∷ a.kind ∷ a.sender ∷ a.word ∷ [])

-- "The last line is `SYSTEM HALTED`, `KERNEL PANIC` or `SYSTEM UP`."
unfoldable pub last_line : Status → List ℕ
last_line Halted = 83 ∷ 89 ∷ 83 ∷ 84 ∷ 69 ∷ 77 ∷ 32 ∷ 72 ∷ 65 ∷ 76 ∷ 84 ∷ 69 ∷ 68 ∷ 10 ∷ []
last_line Panicked = 75 ∷ 69 ∷ 82 ∷ 78 ∷ 69 ∷ 76 ∷ 32 ∷ 80 ∷ 65 ∷ 78 ∷ 73 ∷ 67 ∷ 10 ∷ []
last_line Running = 83 ∷ 89 ∷ 83 ∷ 84 ∷ 69 ∷ 77 ∷ 32 ∷ 85 ∷ 80 ∷ 10 ∷ []
last_line Idle = 83 ∷ 89 ∷ 83 ∷ 84 ∷ 69 ∷ 77 ∷ 32 ∷ 85 ∷ 80 ∷ 10 ∷ []

-- ---- a dump for people: a line for each field, the tag and then its values

abbrev pub head_line : Tables → List ℕ
head_line T =
    numbers_line (head_tag ∷ status_code (status T) ∷ T.last ∷ me T.runner ∷ slice_code T.runner ∷ T.since ∷ T.beats ∷ [])

abbrev pub thread_line : Thread → List ℕ
thread_line t =
    let s = state_numbers t.state in
    let g = t.managers in
    let a = answer_numbers t.answer in
    numbers_line (
    thread_tag ∷ t.name ∷ parent_code t.parent ∷ s.state ∷ s.detail
    ∷ manager_code g.program ∷ manager_code g.tlb ∷ manager_code g.sysbp
    ∷ t.ticks ∷ a.kind ∷ a.sender ∷ a.word ∷ []
    )

abbrev pub message_line : Message → List ℕ
message_line m = numbers_line (message_tag ∷ m.to ∷ m.from ∷ message_code m.kind ∷ m.word ∷ [])

abbrev pub held_line : Held → List ℕ
held_line h = numbers_line (held_tag ∷ h.device ∷ h.word ∷ [])

unfoldable pub table_lines : Tables → List ℕ
table_lines T =
    head_line T ++ each thread_line T.threads ++ numbers_line (ready_tag ∷ T.ready) ++ numbers_line (clock_tag ∷ T.clock)
    ++ each message_line T.messages ++ each held_line T.held
