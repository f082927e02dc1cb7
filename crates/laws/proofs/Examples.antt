-- Runs of the rules, computed: an answer that is due may name a thread that has ended; and the incident, in which no late answer is
-- handed over.
use mathlib.Core.Path.{◌≡◌, refl}
use mathlib.Core.Bool.{false}
use mathlib.Core.List.{[], ◌∷◌}
use Rattle.rules.specs.Lists.{any, has}
use Rattle.rules.specs.Numbers.{small}
use Rattle.rules.specs.Tables.{live, start}
use Rattle.rules.specs.Runs.{run, lines}
use Rattle.rules.specs.Benches.{from}
use Rattle.rules.specs.Opened.{opened}
use Rattle.laws.specs.Words.{FromMessage, FromNotice, SenderGone}
use Rattle.laws.specs.Examples.{due, message_of_the_ended, notice_of_the_ended, end_of_the_sender, incident}

-- ---- "An answer already due to a thread stays, even if its sender has ended."

-- The exception of `nothing_names_the_ended` is needed: in each of these runs 1 has ended, and an answer that names it is due to 0. It is
-- handed over when 2 waits.
pub answers_due_may_name_the_ended :
    (live 1 (run small start message_of_the_ended) ≡ false)
    × (due 0 (run small start message_of_the_ended) ≡ FromMessage 1 7)
    × (live 1 (run small start notice_of_the_ended) ≡ false)
    × (due 0 (run small start notice_of_the_ended) ≡ FromNotice 1 10)
    × (live 1 (run small start end_of_the_sender) ≡ false)
    × (due 0 (run small start end_of_the_sender) ≡ SenderGone 1)
    × (lines small (run small start message_of_the_ended) (from 255 ∷ []) ≡ (0 ∷ 0 ∷ 0 ∷ 1 ∷ 1 ∷ 7 ∷ []) ∷ [])
unfolding opened
answers_due_may_name_the_ended = (refl, refl, refl, refl, refl, refl, refl)

-- ---- the incident

-- The new fetch has another name than the ended one: 3. The late answer is refused with 4, and nobody is handed it. The new fetch is
-- handed the answer to its own question.
pub the_incident :
    (lines small start incident ≡
    (0 ∷ 0 ∷ 0 ∷ 4 ∷ 254 ∷ 1 ∷ [])
    ∷ (0 ∷ 0 ∷ 0 ∷ 4 ∷ 254 ∷ 2 ∷ [])
    ∷ (0 ∷ 0 ∷ 1 ∷ 0 ∷ 255 ∷ 0 ∷ [])
    ∷ (0 ∷ 0 ∷ 2 ∷ 0 ∷ 255 ∷ 0 ∷ [])
    ∷ (0 ∷ 0 ∷ 2 ∷ 0 ∷ 255 ∷ 0 ∷ [])
    ∷ (0 ∷ 0 ∷ 1 ∷ 1 ∷ 2 ∷ 40 ∷ [])
    ∷ (0 ∷ 1 ∷ 255 ∷ 0 ∷ 255 ∷ 0 ∷ [])
    ∷ (0 ∷ 0 ∷ 0 ∷ 4 ∷ 254 ∷ 27 ∷ [])
    ∷ (0 ∷ 0 ∷ 0 ∷ 0 ∷ 255 ∷ 0 ∷ [])
    ∷ (0 ∷ 0 ∷ 0 ∷ 4 ∷ 254 ∷ 3 ∷ [])
    ∷ (0 ∷ 0 ∷ 3 ∷ 0 ∷ 255 ∷ 0 ∷ [])
    ∷ (0 ∷ 0 ∷ 3 ∷ 0 ∷ 255 ∷ 0 ∷ [])
    ∷ (0 ∷ 1 ∷ 255 ∷ 0 ∷ 255 ∷ 0 ∷ [])
    ∷ (0 ∷ 0 ∷ 1 ∷ 4 ∷ 254 ∷ 0 ∷ [])
    ∷ (4 ∷ 0 ∷ 1 ∷ 0 ∷ 255 ∷ 0 ∷ [])
    ∷ (0 ∷ 0 ∷ 1 ∷ 1 ∷ 3 ∷ 41 ∷ [])
    ∷ (0 ∷ 0 ∷ 1 ∷ 0 ∷ 255 ∷ 0 ∷ [])
    ∷ (0 ∷ 0 ∷ 3 ∷ 1 ∷ 1 ∷ 4100 ∷ [])
    ∷ [])
    × (any (has 4000) (lines small start incident) ≡ false)
unfolding opened
the_incident = (refl, refl)
