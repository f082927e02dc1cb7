-- How soon a name returns.
use Rattle.std.specs.Prelude.{ℕ, ◌≤◌, ◌<◌, ◌-◌, ◌≡◌, false, true, List, [], ◌++◌, ◌∷◌, replicate, length}
use Rattle.rules.specs.Tables.{Tables, start, live, with_last}
use Rattle.rules.specs.Step.{act, step}
use Rattle.rules.specs.Waking.{Outcome}
use Rattle.rules.specs.Dispatch.{dispatch}
use Rattle.rules.specs.Numbers.{names, small}
use Rattle.laws.specs.Words.{Limits}
use Rattle.rules.specs.Runs.{Input, run, lines}
use Rattle.rules.specs.Lists.{from_on, any, has}
use Rattle.rules.specs.Benches.{ask, from}
use Rattle.rules.specs.TableRules.{table_rules}
use Rattle.rules.specs.Requests.{next_name}
use Rattle.laws.specs.Words.{Event, FromMessage, FromNotice, SenderGone, Runs}
use Rattle.laws.specs.Comings.{creates, NobodyComes}
use Rattle.laws.specs.Examples.{due, message_of_the_ended, notice_of_the_ended, end_of_the_sender, incident}
use Rattle.laws.specs.Givings.{givings, Begun, given_by}
use Rattle.laws.specs.Incident.{GivenAgain, ANewLife}
use Rattle.laws.specs.Living.{NamesTheLiving, NotYetNamed}
use Rattle.laws.specs.Reached.{a_round, made_and_ended}
use Rattle.laws.specs.Rest.{Twice, others, rest, big}
use Rattle.laws.proofs.Comings as comings
use Rattle.laws.proofs.Rest as rest
use Rattle.laws.proofs.Reached as reached
use Rattle.laws.proofs.Living as living
use Rattle.laws.proofs.Examples as examples
use Rattle.laws.proofs.Trace as trace
use Rattle.laws.proofs.Incident as incident

-- What an event other than request 1 or 2 does, and what dispatch does, brings no thread and leaves the name given last, even where the
-- thread of that name ends.
pub no_other_brings : (T : Tables) (e : Event) → creates e ≡ false → NobodyComes T (act T e).tables
no_other_brings = comings.no_other_brings

pub dispatch_brings_nobody : (o : Outcome) → NobodyComes o.tables (dispatch o).tables
dispatch_brings_nobody = comings.dispatch_brings_nobody

-- From a start or a read dump, for any limits under 254 threads: if a name is given twice, at least 253 − (threads − 1) threads of other
-- names are created in between.
pub a_name_rests : (L : Limits) → 1 ≤ L.threads → L.threads < names → {T : Tables} {given : List ℕ} → Begun L T given →
    (es : Input) (n : ℕ) (t : Twice n (given ++ givings L T es)) → rest L ≤ others n t.between
a_name_rests = rest.a_name_rests

-- That is 234 with 20 threads and 190 with 64.
pub a_name_rests_for_234 : {T : Tables} {given : List ℕ} → Begun small T given →
    (es : Input) (n : ℕ) (t : Twice n (given ++ givings small T es)) → 234 ≤ others n t.between
a_name_rests_for_234 = rest.a_name_rests_for_234

pub a_name_of_64_rests_for_190 : {T : Tables} {given : List ℕ} → Begun big T given →
    (es : Input) (n : ℕ) (t : Twice n (given ++ givings big T es)) → 190 ≤ others n t.between
a_name_of_64_rests_for_190 = rest.a_name_of_64_rests_for_190

-- For any limits with two threads or more there is a run from a start in which exactly so many lie between, 234 with 20 threads and 190
-- with 64: no larger number holds.
pub the_rest_is_reached : (L : Limits) → 2 ≤ L.threads → L.threads < names →
    (t : Twice (L.threads - 1) (0 ∷ givings L start (a_round L.threads))) × (others (L.threads - 1) t.between ≡ rest L)
the_rest_is_reached = reached.the_rest_is_reached

pub reached_234 : (t : Twice 19 (0 ∷ givings small start (a_round 20))) × (others 19 t.between ≡ 234)
reached_234 = reached.reached_234

pub reached_190 : (t : Twice 63 (0 ∷ givings big start (a_round 64))) × (others 63 t.between ≡ 190)
reached_190 = reached.reached_190

-- In that run 0 to 253 are given in turn, and then the first name that is free again.
pub names_come_round : (L : Limits) → 2 ≤ L.threads → L.threads < names → 0 ∷ givings L start (a_round L.threads) ≡ from_on 0 names
    ++ ((L.threads - 1) ∷ [])
names_come_round = reached.names_come_round

-- A run in which a thread ends and the very next one made has its name: the rest is from giving to giving, not from the end.
pub given_at_once_after_the_end : 0 ∷ givings small start (replicate 18 (ask 2 0) ++ (made_and_ended 19 235 ++ (ask 3 18 ∷ ask 2 0 ∷ [])))
    ≡ from_on 0 names ++ (18 ∷ [])
given_at_once_after_the_end = reached.given_at_once_after_the_end

-- From a start or a read dump, after any run: each sender and receiver of a message, each wanted name, manager waited for, waiter for
-- device, clock or processor, parent, manager, and the runner, is live.
pub nothing_names_the_ended : (L : Limits) → 1 ≤ L.threads → L.threads < names → {T : Tables} {given : List ℕ} → Begun L T given →
    (es : Input) → NamesTheLiving (run L T es)
nothing_names_the_ended = living.nothing_names_the_ended

-- Answers already due are the exception. In three runs an answer is due that names an ended thread: a message, a notice and "sender
-- gone". (By computation.)
pub answers_due_may_name_the_ended :
    (live 1 (run small start message_of_the_ended) ≡ false)
    × (due 0 (run small start message_of_the_ended) ≡ FromMessage 1 7)
    × (live 1 (run small start notice_of_the_ended) ≡ false)
    × (due 0 (run small start notice_of_the_ended) ≡ FromNotice 1 10)
    × (live 1 (run small start end_of_the_sender) ≡ false)
    × (due 0 (run small start end_of_the_sender) ≡ SenderGone 1)
    × (lines small (run small start message_of_the_ended) (from 255 ∷ []) ≡ (0 ∷ 0 ∷ 0 ∷ 1 ∷ 1 ∷ 7 ∷ []) ∷ [])
answers_due_may_name_the_ended = examples.answers_due_may_name_the_ended

-- When a name is given no message, wait, parent, manager or runner names it, and no answer is due to it: the newcomer has its row and
-- its place in the ready queue.
pub newcomer_is_not_yet_named : (L : Limits) (T : Tables) (bytes : List ℕ) (n : ℕ) → L.threads < names → table_rules L T ≡ true →
    given_by L T bytes ≡ n ∷ [] → NotYetNamed n (step L T bytes).tables
newcomer_is_not_yet_named = living.newcomer_is_not_yet_named

-- Where somebody runs and a thread can be made: a son that is made and ended at once leaves the tables as before, but for the name given
-- last, which is its own.
pub made_and_ended_leaves_no_trace : (L : Limits) (T : Tables) → L.threads < names → table_rules L T ≡ true → (m s : ℕ) →
    T.runner ≡ Runs m s → length T.threads < L.threads →
    run L T (ask 2 0 ∷ ask 3 (next_name T) ∷ []) ≡ with_last (next_name T) T
made_and_ended_leaves_no_trace = trace.made_and_ended_leaves_no_trace

pub made_and_ended_gives_its_name : (L : Limits) (T : Tables) → L.threads < names → table_rules L T ≡ true → (m s : ℕ) →
    T.runner ≡ Runs m s → length T.threads < L.threads →
    givings L T (ask 2 0 ∷ ask 3 (next_name T) ∷ []) ≡ next_name T ∷ []
made_and_ended_gives_its_name = trace.made_and_ended_gives_its_name

-- The incident, whole. From a start, where a name is given again: the thread that had it has ended; at least 253 − (threads − 1) threads of
-- other names were created since it was given, 234 with 20 threads; and whatever the newcomer is handed comes from an event behind the one
-- that made it.
pub newcomer_gets_its_own : (L : Limits) → 1 ≤ L.threads → L.threads < names →
    (es : Input) (event : List ℕ) (n : ℕ) (g : GivenAgain L es event n) → ANewLife L (rest L) es event n g.between
newcomer_gets_its_own = incident.newcomer_gets_its_own

pub newcomer_gets_its_own_after_234 : (es : Input) (event : List ℕ) (n : ℕ) (g : GivenAgain small es event n) →
    ANewLife small 234 es event n g.between
newcomer_gets_its_own_after_234 = incident.newcomer_gets_its_own_after_234

-- The incident as a run: the late answer is refused with 4 and nobody is handed it. (By computation.)
pub the_incident :
    (lines small start incident ≡
    (0 ∷ 0 ∷ 0 ∷ 4 ∷ 254 ∷ 1 ∷ [])
    ∷ (0 ∷ 0 ∷ 0 ∷ 4 ∷ 254 ∷ 2 ∷ [])
    ∷ (0 ∷ 0 ∷ 1 ∷ 0 ∷ 255 ∷ 0 ∷ [])
    ∷ (0 ∷ 0 ∷ 2 ∷ 0 ∷ 255 ∷ 0 ∷ [])
    ∷ (0 ∷ 0 ∷ 2 ∷ 0 ∷ 255 ∷ 0 ∷ [])
    ∷ (0 ∷ 0 ∷ 1 ∷ 1 ∷ 2 ∷ 40 ∷ [])
    ∷ (0 ∷ 1 ∷ 255 ∷ 0 ∷ 255 ∷ 0 ∷ [])
    ∷ (0 ∷ 0 ∷ 0 ∷ 4 ∷ 254 ∷ 27 ∷ [])
    ∷ (0 ∷ 0 ∷ 0 ∷ 0 ∷ 255 ∷ 0 ∷ [])
    ∷ (0 ∷ 0 ∷ 0 ∷ 4 ∷ 254 ∷ 3 ∷ [])
    ∷ (0 ∷ 0 ∷ 3 ∷ 0 ∷ 255 ∷ 0 ∷ [])
    ∷ (0 ∷ 0 ∷ 3 ∷ 0 ∷ 255 ∷ 0 ∷ [])
    ∷ (0 ∷ 1 ∷ 255 ∷ 0 ∷ 255 ∷ 0 ∷ [])
    ∷ (0 ∷ 0 ∷ 1 ∷ 4 ∷ 254 ∷ 0 ∷ [])
    ∷ (4 ∷ 0 ∷ 1 ∷ 0 ∷ 255 ∷ 0 ∷ [])
    ∷ (0 ∷ 0 ∷ 1 ∷ 1 ∷ 3 ∷ 41 ∷ [])
    ∷ (0 ∷ 0 ∷ 1 ∷ 0 ∷ 255 ∷ 0 ∷ [])
    ∷ (0 ∷ 0 ∷ 3 ∷ 1 ∷ 1 ∷ 4100 ∷ [])
    ∷ [])
    × (any (has 4000) (lines small start incident) ≡ false)
the_incident = examples.the_incident
