-- Where bytes that are no dump are bad (document 02, CR 4): "Split it by cause and give the offset of the first byte of the field at
-- fault, or the length of the input where a field is missing or cut." A list of offsets for each number, in the order of the bytes.
use Rattle.std.specs.Prelude.{ℕ, ◌+◌, Bool, true, ◌&&◌, ◌||◌, not, List, [], ◌∷◌, ◌++◌, map, leb, ltb, length, if◌then◌else◌, ◌==◌}
use Rattle.rules.specs.Lists.{all, any, keep, has}
use Rattle.rules.specs.Numbers.{Limits, names, full_slice, beat_ticks, devices}
use Rattle.rules.specs.Words.{State, Manager, Managers, Working, Idle, Halted, Panicked, Verdict, by_state, by_wanted, by_manager}
use Rattle.rules.specs.Words.{by_parent, by_runner}
use Rattle.rules.specs.Tables.{live}
use Rattle.rules.specs.Tags.{head_tag, thread_tag, ready_tag, clock_tag, message_tag, held_tag, dump_rows, dump_facts}
use Rattle.rules.specs.Codes.{status_code, slice_code, state_numbers, answer_numbers, message_code}
use Rattle.rules.specs.TableRules.{state_in_range, answer_in_range, manager_set}
use Rattle.rules.specs.Fields.{complete, unread}
use Rattle.rules.specs.Load.{Field, as_field, fields_of, told, at, word_at, runner_from, parent_from, state_from, answer_from}
use Rattle.rules.specs.Load.{message_kind_from, thread_from, Loaded, no_dump, loaded, load}

-- ---- fields and their places

-- a complete field: the offset of its first byte, the tags of the fields before it, the nearest first, and the field itself
pub record Placed : Type 0 where
  pub at : ℕ
  pub before : List ℕ
  pub field : Field

unfoldable pub placed_from : ℕ → List ℕ → List (List ℕ) → List Placed
placed_from at before [] = []
placed_from at before (f ∷ fs) =
    record { at = at; before = before; field = as_field f } ∷ placed_from (at + length f) ((as_field f).tag ∷ before) fs

abbrev pub placed : List ℕ → List Placed
placed bytes = placed_from 0 [] (complete bytes)

-- "the offset of the first byte of the field at fault": of each field that has the fault
unfoldable pub offsets : (Placed → Bool) → List Placed → List ℕ
offsets fault fs = map (λ f. f.at) (keep fault fs)

-- ---- "15 cut short, wrong length, or no field 1, 3 or 4"

-- the table has no length for an unknown tag, and none for 3 and 4
unfoldable pub wrong_length : Field → Bool
wrong_length f = let r = dump_facts f.tag in r.sized && not (length f.value == r.length)

-- "the length of the input where a field is missing or cut": bytes are left behind the complete fields, or a field that always stands
-- does not
unfoldable pub ends_badly : List ℕ → Bool
ends_badly bytes = ltb 0 (length (unread bytes)) || any (λ r. r.once && not (has r.tag (map (λ f. f.tag) (fields_of bytes)))) dump_rows

unfoldable pub faults_15 : List ℕ → List ℕ
faults_15 bytes = offsets (λ f. wrong_length f.field) (placed bytes) ++ (if ends_badly bytes then length bytes ∷ [] else [])

-- ---- "16 unknown tag, tags out of order, or a second 1, 3 or 4"

-- the place of the tag right before; nothing ranks below the first place
unfoldable pub place_before : List ℕ → ℕ
place_before [] = 0
place_before (tag ∷ tags) = (dump_facts tag).place

unfoldable pub misplaced : Placed → Bool
misplaced f =
    let r = dump_facts f.field.tag in
    not r.known || ltb r.place (place_before f.before) || (r.once && has f.field.tag f.before)

unfoldable pub faults_16 : List ℕ → List ℕ
faults_16 bytes = offsets misplaced (placed bytes)

-- ---- "17 value outside its range (slice, detail and answer as runner, state and kind allow)"
-- A range is what Codes.antt writes, within the ranges of the table rules. Managers have every byte, counts and words every four.

abbrev pub is_name : ℕ → Bool
is_name n = ltb n names

abbrev pub status_fits : ℕ → Bool
status_fits n = any (λ s. n == status_code s) (Working ∷ Idle ∷ Halted ∷ Panicked ∷ [])

-- "runner or 255, slice left (0 with no runner)", "slice 1 to 5 with a runner"
unfoldable pub runner_fits : ℕ → ℕ → Bool
runner_fits n slice =
    let r = runner_from n slice in
    (slice == slice_code r) && by_runner true (λ m s. is_name m && leb 1 s && leb s full_slice) r

abbrev pub parent_fits : ℕ → Bool
parent_fits n = by_parent true is_name (parent_from n)

-- "state (0 to 5 ..), detail (wanted name or 255; device; trap kind; else 0)"
unfoldable pub state_fits : ℕ → ℕ → Bool
state_fits n detail =
    let s = state_from n detail in
    (n == (state_numbers s).state) && (detail == (state_numbers s).detail) && state_in_range s
    && by_state true (by_wanted true is_name) (λ d. true) (λ k. true) s

-- "answers have the forms above .., kinds 1 to 3 with a sender 0 to 253"
unfoldable pub answer_fits : ℕ → ℕ → ℕ → Bool
answer_fits kind sender w =
    let a = answer_from kind sender w in
    (kind == (answer_numbers a).kind) && (sender == (answer_numbers a).sender) && (w == (answer_numbers a).word) && answer_in_range a

abbrev pub kind_fits : ℕ → Bool
kind_fits n = n == message_code (message_kind_from n)

unfoldable pub head_fits : List ℕ → Bool
head_fits v = status_fits (at v 0) && is_name (at v 1) && runner_fits (at v 2) (at v 3) && ltb (at v 4) beat_ticks

unfoldable pub thread_fits : List ℕ → Bool
thread_fits v = is_name (at v 0) && parent_fits (at v 1) && state_fits (at v 2) (at v 3) && answer_fits (at v 11) (at v 12) (word_at v 13)

unfoldable pub message_fits : List ℕ → Bool
message_fits v = is_name (at v 0) && is_name (at v 1) && kind_fits (at v 2)

-- the value of a field, by its tag
unfoldable pub value_fits : ℕ → List ℕ → Bool
value_fits tag v =
    if tag == head_tag then head_fits v else (
    if tag == thread_tag then thread_fits v else (
    if tag == ready_tag then all is_name v else (
    if tag == clock_tag then all is_name v else (
    if tag == message_tag then message_fits v else (
    if tag == held_tag then ltb (at v 0) devices else (
    true))))))

-- a value of a wrong length is not looked at
unfoldable pub out_of_range : Field → Bool
out_of_range f = not (wrong_length f) && not (value_fits f.tag f.value)

unfoldable pub faults_17 : List ℕ → List ℕ
faults_17 bytes = offsets (λ f. out_of_range f.field) (placed bytes)

-- ---- "18 a name not live where 01 asks for one". `lives` says which names live.

abbrev pub entry_lives : (ℕ → Bool) → Manager → Bool
entry_lives lives m = by_manager true lives m

-- "names wanted and set are live"
abbrev pub wanted_lives : (ℕ → Bool) → State → Bool
wanted_lives lives s = by_state true (by_wanted true lives) (λ d. true) (λ k. true) s

-- the three entries
abbrev pub entries_live : (ℕ → Bool) → Managers → Bool
entries_live lives g = entry_lives lives g.program && entry_lives lives g.tlb && entry_lives lives g.sysbp

-- "state, runner .. agree": who runs is live
unfoldable pub head_lives : (ℕ → Bool) → List ℕ → Bool
head_lives lives v = by_runner true (λ n s. lives n) (runner_from (at v 2) (at v 3))

-- "parents are live", "a trapped thread's manager is live": so its entry is set, too
unfoldable pub thread_lives : (ℕ → Bool) → List ℕ → Bool
thread_lives lives v =
    let t = thread_from v in
    by_parent true lives t.parent && wanted_lives lives t.state && entries_live lives t.managers
    && manager_set t.managers t.state

-- "message senders and receivers are live"
unfoldable pub message_lives : (ℕ → Bool) → List ℕ → Bool
message_lives lives v = lives (at v 0) && lives (at v 1)

unfoldable pub value_lives : (ℕ → Bool) → ℕ → List ℕ → Bool
value_lives lives tag v =
    if tag == head_tag then head_lives lives v else (
    if tag == thread_tag then thread_lives lives v else (
    if tag == ready_tag then all lives v else (
    if tag == clock_tag then all lives v else (
    if tag == message_tag then message_lives lives v else (
    true)))))

unfoldable pub names_nobody : (ℕ → Bool) → Field → Bool
names_nobody lives f = not (wrong_length f) && not (value_lives lives f.tag f.value)

unfoldable pub faults_18 : List ℕ → List ℕ
faults_18 bytes = offsets (λ f. names_nobody (λ n. live n (told bytes)) f.field) (placed bytes)

-- ---- "Where several rules fail, the first in the list below counts, and within it the earliest field"

unfoldable pub earliest : ℕ → List ℕ → Verdict → Verdict
earliest n [] otherwise = otherwise
earliest n (offset ∷ more) otherwise = record { refusal = n; offset = offset }

-- "for 19 the offset is 0"
unfoldable pub where_bad : List ℕ → Verdict
where_bad bytes =
    earliest 15 (faults_15 bytes)
    (earliest 16 (faults_16 bytes)
    (earliest 17 (faults_17 bytes)
    (earliest 18 (faults_18 bytes)
    (record { refusal = 19; offset = 0 }))))

unfoldable pub verdict_on : List ℕ → Loaded → Verdict
verdict_on bytes no_dump = where_bad bytes
verdict_on bytes (loaded T) = record { refusal = 0; offset = 0 }

-- what reading answers
unfoldable pub verdict : Limits → List ℕ → Verdict
verdict L bytes = verdict_on bytes (load L bytes)
