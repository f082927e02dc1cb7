-- What requests do.
use Rattle.std.specs.Prelude.{ℕ, ◌%◌, ◌≤◌, ◌<◌, ◌≡◌, true, false, not, ◌≢◌, ◌⊎◌, ◌==◌}
use mathlib.Core.List.{List, Memᴰ}
use Rattle.rules.specs.Numbers.{names, wrap}
use Rattle.laws.specs.Words.{Limits}
use Rattle.rules.specs.Tables.{Tables, start, live, with_held, manager, with_threads}
use Rattle.rules.specs.Step.{step}
use Rattle.rules.specs.Runs.{Input, run}
use Rattle.rules.specs.TableRules.{table_rules}
use Rattle.rules.specs.Lists.{any, keep, has}
use Rattle.rules.specs.Ending.{ended_set, end}
use Rattle.rules.specs.Events.{decode}
use Rattle.laws.specs.Words.{Answer, Result, GetCpuTime, Held, WaitForIo, Device, Nothing, Thread, TrapKind, Set, Gone, Unset, SetManager}
use Rattle.laws.specs.Words.{CreateBrother, ParentIs, CreateSon}
use Rattle.laws.specs.Counts.{ticks_at}
use Rattle.laws.specs.Entries.{Fate}
use Rattle.laws.specs.Lives.{life_ticks}
use Rattle.laws.specs.Requests.{Accepted, requester, entry, Made}
use Rattle.laws.proofs.Requests as requests
use Rattle.laws.proofs.Lives as lives
use Rattle.laws.proofs.Entries as entries

-- An accepted GETCPUTIME hands over the requester's count and changes nothing.
pub cpu_time_is_the_count : (L : Limits) (T : Tables) (bytes : List ℕ) → Accepted L T bytes GetCpuTime →
    ((step L T bytes).decision.answer ≡ Result (ticks_at (requester T) T.threads)) × ((step L T bytes).tables ≡ T)
cpu_time_is_the_count = requests.cpu_time_is_the_count

-- From a start, after any run: that is the number of ticks accepted while the requester ran, since it was made, modulo 2^32.
pub cpu_time_is_counted : (L : Limits) (es : Input) (bytes : List ℕ) → 1 ≤ L.threads → L.threads < names →
    Accepted L (run L start es) bytes GetCpuTime →
    (step L (run L start es) bytes).decision.answer ≡ Result (life_ticks L (requester (run L start es)) 0 start es % wrap)
cpu_time_is_counted = lives.cpu_time_is_counted

-- The same of any live thread's count, and from any ruled tables, with what it was there; a thread that was not there before an event has
-- count 0.
pub count_of_a_life : (L : Limits) (n : ℕ) → L.threads < names → (T : Tables) (es : Input) (a : ℕ) → table_rules L T ≡ true →
    (live n T ≡ true → ticks_at n T.threads ≡ a % wrap) →
    live n (run L T es) ≡ true → ticks_at n (run L T es).threads ≡ life_ticks L n a T es % wrap
count_of_a_life = lives.count_of_a_life

pub newcomer_has_count_0 : (n : ℕ) (L : Limits) (T : Tables) (bytes : List ℕ) → live n T ≡ false →
    ticks_at n (step L T bytes).tables.threads ≡ 0
newcomer_has_count_0 = lives.newcomer_has_count_0

module _ (L : Limits) (T : Tables) (bytes : List ℕ) where
  -- the tables after the event
  abbrev pub after : Tables
  after = (step L T bytes).tables

  -- what it hands over
  abbrev pub answer : Answer
  answer = (step L T bytes).decision.answer

  -- An accepted WAITFORIO with a held word hands it over at once; then none is held for that device, and all else is as it was.
  pub held_word_is_taken : (d : ℕ) → table_rules L T ≡ true → Accepted L T bytes (WaitForIo d) →
      (h : Held) → Memᴰ h T.held → h.device ≡ d →
      (answer ≡ Result h.word) × (after ≡ with_held (keep (λ x. not (x.device == d)) T.held) T)
      × (any (λ x. x.device == d) after.held ≡ false)
  held_word_is_taken = requests.held_word_is_taken L T bytes

  -- Without one the requester waits for that device, without an answer; the held words are as they were.
  pub device_is_waited_for : (d : ℕ) → table_rules L T ≡ true → Accepted L T bytes (WaitForIo d) →
      any (λ x. x.device == d) T.held ≡ false →
      (u : Thread) × Memᴰ u after.threads × (u.name ≡ requester T) × (u.state ≡ Device d) × (u.answer ≡ Nothing)
      × (after.held ≡ T.held)
  device_is_waited_for = requests.device_is_waited_for L T bytes

  -- An accepted request 4 to 6 whose entry is set or gone ends the requester.
  pub second_manager_ends : (k : TrapKind) (x : ℕ) → Accepted L T bytes (SetManager k x) → entry k (requester T) T.threads ≢ Unset →
      live (requester T) after ≡ false
  second_manager_ends = requests.second_manager_ends L T bytes

  -- One whose entry is unset sets it to that name and hands over 0; every other entry, and everything but the threads, is as it was.
  pub first_manager_is_set : (k : TrapKind) (x : ℕ) → table_rules L T ≡ true → Accepted L T bytes (SetManager k x) →
      entry k (requester T) T.threads ≡ Unset →
      (answer ≡ Result 0) × (entry k (requester T) after.threads ≡ Set x)
      × ((j : TrapKind) (n : ℕ) → (n ≢ requester T) ⊎ (j ≢ k) → entry j n after.threads ≡ entry j n T.threads)
      × (with_threads T.threads after ≡ T)
  first_manager_is_set = requests.first_manager_is_set L T bytes

  -- An accepted request 1 or 2 makes one thread more, of a name that nobody had, which is the result: ready, without managers or answer,
  -- with count 0; its parent is the requester's parent, or the requester; the others are as they were.
  pub brother_has_the_parent : L.threads < names → table_rules L T ≡ true → Accepted L T bytes CreateBrother →
      (r : Thread) → Memᴰ r T.threads → r.name ≡ requester T → Made r.parent T after answer
  brother_has_the_parent = requests.brother_has_the_parent L T bytes

  pub son_has_the_requester : L.threads < names → table_rules L T ≡ true → Accepted L T bytes CreateSon →
      Made (ParentIs (requester T)) T after answer
  son_has_the_requester = requests.son_has_the_requester L T bytes

  -- Over any event, an entry of a thread that lives on stays; or it named a thread that has ended, and is gone; or it was unset, and its
  -- thread has set it.
  pub entry_fares : L.threads < names → table_rules L T ≡ true → (k : TrapKind) (n : ℕ) → live n T ≡ true → live n after ≡ true →
      Fate k n T (decode bytes) after
  entry_fares = entries.entry_fares L T bytes

  -- From ruled tables: an entry that named a thread that is no longer there after the event is gone.
  pub entry_of_the_ended_is_gone : L.threads < names → table_rules L T ≡ true → (k : TrapKind) (n m : ℕ) → live n after ≡ true →
      entry k n T.threads ≡ Set m → live m after ≡ false → entry k n after.threads ≡ Gone
  entry_of_the_ended_is_gone = entries.entry_of_the_ended_is_gone L T bytes

-- After an ending, for every survivor and each kind: an entry set to a member is gone, every other is as it was.
pub ended_managers_are_gone : (n : ℕ) (T : Tables) (u : Thread) → Memᴰ u (end n T).threads →
    (t : Thread) × Memᴰ t T.threads × (t.name ≡ u.name)
    × ((k : TrapKind) (m : ℕ) → manager k t.managers ≡ Set m → has m (ended_set T.threads n) ≡ true → manager k u.managers ≡ Gone)
    × ((k : TrapKind) → ((m : ℕ) → manager k t.managers ≡ Set m → has m (ended_set T.threads n) ≡ false) →
    manager k u.managers ≡ manager k t.managers)
ended_managers_are_gone = entries.ended_managers_are_gone
