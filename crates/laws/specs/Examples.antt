-- Runs that are computed: answers that name an ended thread, and the incident.
use Rattle.std.specs.Prelude.{ℕ, [], ◌∷◌, ◌++◌}
use Rattle.rules.specs.Tables.{Tables, of_thread}
use Rattle.rules.specs.Runs.{Input}
use Rattle.rules.specs.Benches.{to, from, ask, trapping, interrupting}
use Rattle.laws.specs.Words.{Answer, Nothing}

-- the answer that is due to thread n
abbrev pub due : ℕ → Tables → Answer
due n T = of_thread Nothing (λ t. t.answer) n T.threads

-- thread 0 makes 1 and 2, which wait for the processor in this order
abbrev pub two_sons : Input
two_sons = ask 2 0 ∷ ask 2 0 ∷ []

-- 0 receives from anybody; 1 sends it a message and ends. 2 runs, and 0 is ready.
abbrev pub message_of_the_ended : Input
message_of_the_ended = two_sons ++ (from 255 ∷ to 0 7 ∷ ask 3 255 ∷ [])

-- 0 receives from anybody; 1 takes it as its manager and traps; 2 ends 1.
abbrev pub notice_of_the_ended : Input
notice_of_the_ended = two_sons ++ (from 255 ∷ ask 4 0 ∷ trapping 0 10 ∷ ask 3 1 ∷ [])

-- 0 receives from 1, which ends.
abbrev pub end_of_the_sender : Input
end_of_the_sender = two_sons ++ (from 1 ∷ ask 3 255 ∷ [])

-- Thread 0 is the desk. It makes the store, 1, and a fetch, 2, and waits for a key of terminal 0 (device 33).
-- The store waits for a question. The fetch asks for revision 40 and waits for the store's answer. The store takes the question and waits
-- for its disk (device 3). Nobody can run.
abbrev pub asked : Input
asked = ask 2 0 ∷ ask 2 0 ∷ ask 9 33 ∷ from 255 ∷ to 1 40 ∷ from 1 ∷ ask 9 3 ∷ []

-- A key is pressed: the desk ends the fetch, makes another, and waits for the next key. The new fetch asks for revision 41 and waits.
abbrev pub asked_anew : Input
asked_anew = interrupting 8589934592 27 ∷ ask 3 2 ∷ ask 2 0 ∷ ask 9 33 ∷ to 1 41 ∷ from 1 ∷ []

-- The disk is done: the store answers the first fetch, 2, with the word 4000, takes the next question, answers that with 4100 and waits.
abbrev pub answered : Input
answered = interrupting 8 0 ∷ to 2 4000 ∷ from 255 ∷ to 3 4100 ∷ from 255 ∷ []

abbrev pub incident : Input
incident = asked ++ (asked_anew ++ answered)
