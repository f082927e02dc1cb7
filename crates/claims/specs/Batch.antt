-- A batch of events.
use Rattle.std.specs.Prelude.{ℕ, ◌-◌, ◌<◌, ◌≤◌, ◌≡◌, List, [], ◌++◌, ◌∷◌, true, false, ◌↔◌, ◌⊎◌, ◌≢◌, length}
use Rattle.rules.specs.Batch.{complete, unread, taken, batch, numbers}
use Rattle.rules.specs.Lists.{all}
use Rattle.rules.specs.Fields.{whole}
use Rattle.rules.specs.Runs.{Input, run, decisions}
use Rattle.laws.specs.Words.{Limits}
use Rattle.rules.specs.Tables.{Tables}
use Rattle.rules.specs.Step.{step}
use Rattle.laws.specs.Batch.{joined, one_field, needed}
use Rattle.laws.proofs.Batch as batch

-- The fields that are run, one behind the other, and then the unread end are the bytes.
pub nothing_is_lost : (l : List ℕ) → joined (complete l) ++ unread l ≡ l
nothing_is_lost = batch.nothing_is_lost

-- Each event that is run is exactly one complete field, and the unread end opens with none.
pub each_is_complete : (l : List ℕ) → all one_field (complete l) ≡ true
each_is_complete = batch.each_is_complete

pub unread_is_cut : (l : List ℕ) → whole (unread l) ≡ false
unread_is_cut = batch.unread_is_cut

-- Bytes cut into complete fields and an end that opens with none are cut so: there is no other way.
pub cut_is_the_only_one : (fs : Input) (r : List ℕ) → all one_field fs ≡ true → whole r ≡ false
    → (complete (joined fs ++ r) ≡ fs) × (unread (joined fs ++ r) ≡ r)
cut_is_the_only_one = batch.cut_is_the_only_one

-- The refusal is 14 exactly if the buffer is too short for six numbers for each complete field.
pub refused_14 : (room : ℕ) (bytes : List ℕ) → ((taken room bytes).refusal ≡ 14) ↔ (room < needed bytes)
refused_14 = batch.refused_14

-- There is no other number. A refused batch leaves the tables, has no decision, and hands back all its bytes.
pub refusal_is_0_or_14 : (L : Limits) (T : Tables) (room : ℕ) (bytes : List ℕ) →
    ((batch L T room bytes).refusal ≡ 0) ⊎ ((batch L T room bytes).refusal ≡ 14)
refusal_is_0_or_14 = batch.refusal_is_0_or_14

pub refused_runs_nothing : (L : Limits) (T : Tables) (room : ℕ) (bytes : List ℕ) →
    (batch L T room bytes).refusal ≢ 0
    → ((batch L T room bytes).tables ≡ T) × ((batch L T room bytes).decisions ≡ []) × ((batch L T room bytes).unread ≡ bytes)
refused_runs_nothing = batch.refused_runs_nothing

-- The decisions of a batch have room in the buffer.
pub decisions_fit : (L : Limits) (T : Tables) (room : ℕ) (bytes : List ℕ) →
    length (numbers (batch L T room bytes).decisions) ≤ room
decisions_fit = batch.decisions_fit

-- In a batch that is not refused each event, wherever it stands in it, has the decision of a single call on what the calls before it left,
-- refused and malformed events included; and the last call leaves the tables of the batch.
pub equals_single_calls : (L : Limits) (T : Tables) (room : ℕ) (bytes : List ℕ) →
    (batch L T room bytes).refusal ≡ 0 → (es fs : Input) (e : List ℕ) → complete bytes ≡ es ++ (e ∷ fs) →
    ((batch L T room bytes).decisions ≡ decisions L T es
    ++ ((step L (run L T es) e).decision ∷ decisions L (step L (run L T es) e).tables fs))
    × ((batch L T room bytes).tables ≡ run L (step L (run L T es) e).tables fs)
equals_single_calls = batch.equals_single_calls

-- Two batches in a row, the second opened by the first one's unread end, with what is left of the buffer: where the first is refused,
-- so is one batch of all the bytes; else the refusal is the same and, where it is 0, so are decisions, tables and unread end.
pub refused_at_once : (room : ℕ) (a b : List ℕ) → (taken room a).refusal ≡ 14 → (taken room (a ++ b)).refusal ≡ 14
refused_at_once = batch.refused_at_once

pub two_equal_one : (L : Limits) (T : Tables) (room : ℕ) (a b : List ℕ) →
    let first = batch L T room a in
    let second = batch L first.tables (room - length (numbers first.decisions)) (first.unread ++ b) in
    let one = batch L T room (a ++ b) in
    first.refusal ≡ 0 →
    (second.refusal ≡ one.refusal)
    × (one.refusal ≡ 0 → (first.decisions ++ second.decisions ≡ one.decisions) × (second.tables ≡ one.tables)
    × (second.unread ≡ one.unread))
two_equal_one = batch.two_equal_one
