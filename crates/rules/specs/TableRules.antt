-- The table rules of document 01 ("Table rules: .."), a test for each, in its order.
-- "Status is what Dispatch says" has none: it is computed and not kept. What a type rules out has none either.
use Rattle.std.specs.Prelude.{ℕ, zero, suc, ◌+◌, Bool, true, false, ◌&&◌, ◌||◌, not, List, [], ◌∷◌, leb, ltb, length, if◌then◌else◌, ◌==◌}
use Rattle.rules.specs.Lists.{one_if, all, any, count, chain, times_in, from_on}
use Rattle.rules.specs.Numbers.{Limits, names, full_slice, beat_ticks, devices, wrap}
use Rattle.rules.specs.Words.{State, Answer, Nothing, FromMessage, FromNotice, SenderGone, Result, Manager, Managers, Parent, Thread}
use Rattle.rules.specs.Words.{Message, Runner, by_state, by_wanted, by_manager, by_parent, by_runner}
use Rattle.rules.specs.Tables.{Tables, named, live, runs_as, manager}
use Rattle.rules.specs.States.{is_running, is_ready, on_clock, waits_for, awaits}
use Rattle.rules.specs.Waking.{is_ordinary, blocks_used, notice_of}
use Rattle.rules.specs.Receive.{wanted_by}
use Rattle.rules.specs.Interrupt.{held_for}

-- ---- "every value is in its range, the name given last 0 to 253"

unfoldable pub state_in_range : State → Bool
state_in_range s = by_state true (λ w. true) (λ d. ltb d devices) (λ k. true) s

abbrev pub ranges : Tables → Bool
ranges T =
    ltb T.last names && ltb T.since beat_ticks && ltb T.beats wrap
    && all (λ t. ltb t.ticks wrap && state_in_range t.state) T.threads
    && all (λ m. ltb m.word wrap) T.messages
    && all (λ h. ltb h.device devices && ltb h.word wrap) T.held

-- ---- "live names are distinct, 0 to 253, at most 20": threads stand by rising name
abbrev pub names_right : Limits → Tables → Bool
names_right L T =
    chain (λ t u. ltb t.name u.name) T.threads
    && all (λ t. ltb t.name names) T.threads
    && leb (length T.threads) L.threads

-- ---- "parents are live, without a cycle, 0 alone has none"

abbrev pub has_parent : Parent → Bool
has_parent p = by_parent false (λ n. true) p

-- going up over live threads comes to one that has no parent, in at most k steps
unfoldable pub climbs : ℕ → List Thread → Parent → Bool
climbs zero ts p = not (has_parent p)
climbs (suc k) ts p = by_parent true (λ n. any (λ t. let above = climbs k ts t.parent in named n t && above) ts) p

abbrev pub parents_right : Tables → Bool
parents_right T =
    all (λ t. (if t.name == 0 then not (has_parent t.parent) else has_parent t.parent)
    && climbs (length T.threads) T.threads t.parent) T.threads

-- ---- "state, runner, ready queue and clock queue agree, each name once"

abbrev pub places_agree : Tables → Bool
places_agree T =
    all
    (λ t.
    one_if (is_running t.state) == one_if (runs_as t.name T.runner)
    && one_if (is_ready t.state) == times_in T.ready t.name
    && one_if (on_clock t.state) == times_in T.clock t.name)
    T.threads
    && by_runner true (λ n s. live n T) T.runner
    && all (λ n. live n T) T.ready
    && all (λ n. live n T) T.clock

-- ---- "a device has one waiter or a held status or neither"
abbrev pub devices_right : Tables → Bool
devices_right T = all (λ d. leb (count (waits_for d) T.threads + count (held_for d) T.held) 1) (from_on 0 devices)

-- ---- "names wanted and set are live, and no manager is oneself"

unfoldable pub wanted_live : Tables → State → Bool
wanted_live T s = by_state true (by_wanted true (λ n. live n T)) (λ d. true) (λ k. true) s

abbrev pub entry_right : Tables → ℕ → Manager → Bool
entry_right T own m = by_manager true (λ n. live n T && not (n == own)) m

abbrev pub entries_right : Tables → Thread → Bool
entries_right T t = entry_right T t.name t.managers.program && entry_right T t.name t.managers.tlb
    && entry_right T t.name t.managers.sysbp

abbrev pub names_live : Tables → Bool
names_live T = all (λ t. wanted_live T t.state && entries_right T t) T.threads

-- ---- "a trapped thread's manager is live": its entry is set, and what is set is live

unfoldable pub manager_set : Managers → State → Bool
manager_set g s = by_state true (λ w. true) (λ d. true) (λ k. by_manager false (λ n. true) (manager k g)) s

abbrev pub trapped_right : Tables → Bool
trapped_right T = all (λ t. manager_set t.managers t.state) T.threads

-- ---- "a receiver's inbox holds no match"

unfoldable pub no_match : List Message → ℕ → State → Bool
no_match ms n s = by_state true (λ w. not (any (wanted_by n w) ms)) (λ d. true) (λ k. true) s

abbrev pub inboxes_right : Tables → Bool
inboxes_right T = all (λ t. no_match T.messages t.name t.state) T.threads

-- ---- "message senders and receivers are live; at most 20 ordinary messages"
abbrev pub messages_right : Limits → Tables → Bool
messages_right L T = all (λ m. live m.to T && live m.from T) T.messages && leb (blocks_used T) L.blocks

-- ---- "a notice's sender is trapped, its receiver is the manager waited for, one at most"
abbrev pub notices_right : Tables → Bool
notices_right T =
    all (λ m. is_ordinary m.kind || any (λ t. named m.from t && awaits m.to t) T.threads) T.messages
    && all (λ t. leb (count (notice_of t.name) T.messages) 1) T.threads

-- ---- "nobody is ready without a runner; slice 1 to 5 with a runner"
abbrev pub runner_right : List ℕ → Runner → Bool
runner_right q r = by_runner (length q == 0) (λ n s. leb 1 s && leb s full_slice) r

-- ---- "answers have the forms above and wait only for ready threads, kinds 1 to 3 with a sender 0 to 253"

unfoldable pub answer_in_range : Answer → Bool
answer_in_range Nothing = true
answer_in_range (FromMessage n w) = ltb n names && ltb w wrap
answer_in_range (FromNotice n w) = ltb n names && ltb w wrap
answer_in_range (SenderGone n) = ltb n names
answer_in_range (Result w) = ltb w wrap

unfoldable pub is_nothing : Answer → Bool
is_nothing Nothing = true
is_nothing (FromMessage n w) = false
is_nothing (FromNotice n w) = false
is_nothing (SenderGone n) = false
is_nothing (Result w) = false

abbrev pub answers_right : Tables → Bool
answers_right T = all (λ t. answer_in_range t.answer && (is_ready t.state || is_nothing t.answer)) T.threads

-- ---- the dump's orders: "by rising receiver", "by rising device"
abbrev pub orders_right : Tables → Bool
orders_right T = chain (λ m n. leb m.to n.to) T.messages && chain (λ h k. ltb h.device k.device) T.held

-- "Table rules: .." as a list, in the order of the document
abbrev pub table_tests : Limits → Tables → List Bool
table_tests L T =
    ranges T ∷ names_right L T ∷ parents_right T ∷ places_agree T ∷ devices_right T ∷ names_live T ∷ trapped_right T ∷ inboxes_right T
    ∷ messages_right L T ∷ notices_right T ∷ runner_right T.ready T.runner ∷ answers_right T ∷ orders_right T ∷ []

-- tables meet the table rules exactly if every test holds
unfoldable pub table_rules : Limits → Tables → Bool
table_rules L T = all (λ b. b) (table_tests L T)
