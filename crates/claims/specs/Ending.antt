-- Ending, and no late answer.
use Rattle.std.specs.Prelude.{ℕ, ◌≤◌, ◌<◌, ◌+◌, ◌%◌, ◌≡◌, true, Bool, false, length}
use mathlib.Core.List.{List, [], Memᴰ, ◌∷◌, ◌++◌}
use Rattle.rules.specs.Lists.{has}
use Rattle.rules.specs.Ending.{ended_set, depends, end}
use Rattle.rules.specs.Tables.{Tables, start, live}
use Rattle.rules.specs.Numbers.{names}
use Rattle.laws.specs.Words.{Limits}
use Rattle.rules.specs.Step.{step}
use Rattle.rules.specs.Runs.{Input, run}
use Rattle.rules.specs.Requests.{next_name}
use Rattle.laws.specs.Words.{Thread, Answer, SenderGone}
use Rattle.laws.specs.Closure.{Closed}
use Rattle.laws.specs.Ending.{Forgotten, Survives}
use Rattle.laws.specs.Late.{from_a_thread, Owed, SentIn, Told}
use Rattle.laws.proofs.Closure as closure
use Rattle.laws.proofs.Ending as ending
use Rattle.laws.proofs.Late as late
use Rattle.laws.proofs.Names as names

module _ (ts : List Thread) where
  -- The thread that ends is in the ended set, and so are the children of each member and those trapped on it.
  pub ended_holds : (n : ℕ) → has n (ended_set ts n) ≡ true
  ended_holds = closure.ended_holds ts

  pub ended_closed : (n : ℕ) (t : Thread) → Memᴰ t ts → depends (ended_set ts n) t ≡ true → has t.name (ended_set ts n) ≡ true
  ended_closed = closure.ended_closed ts

  -- It is contained in every such set.
  pub ended_least : (p : ℕ → Bool) → Closed p ts → (n : ℕ) → p n ≡ true → (x : ℕ) → has x (ended_set ts n) ≡ true → p x ≡ true
  ended_least = closure.ended_least ts

-- After an ending no thread, parent, wanted name, manager, message, queue or runner names a member.
pub ending_forgets : (n : ℕ) (T : Tables) → Forgotten (ended_set T.threads n) (end n T)
ending_forgets = ending.ending_forgets

-- Everybody else is still there, with the same parent and count, and the same state and answer unless it received from a member: then it is
-- ready, and told that this one is gone. Its entries that name a member are gone, and the others as they were.
pub survivors : (n : ℕ) (T : Tables) (t : Thread) → Memᴰ t T.threads → has t.name (ended_set T.threads n) ≡ false →
    (u : Thread) × Memᴰ u (end n T).threads × Survives (ended_set T.threads n) t u
survivors = ending.survivors

module _ (L : Limits) (some : 1 ≤ L.threads) (few : L.threads < names) where
  -- A message or notice that a thread is handed was sent to it, by the named sender, in this very life of the receiver.
  pub handed_was_owed : (es : Input) (e : List ℕ) (n : ℕ) (a : Answer) →
      (step L (run L start es) e).decision.runner ≡ n → (step L (run L start es) e).decision.answer ≡ a → from_a_thread a ≡ true →
      Owed L (es ++ (e ∷ [])) n a
  handed_was_owed = late.handed_was_owed L some few

  -- If at some time no thread had a name, each message or notice that a later thread of that name is handed was sent to it after that time.
  pub no_late_answer : (es fs : Input) (e : List ℕ) (n : ℕ) (a : Answer) → live n (run L start es) ≡ false →
      (step L (run L start (es ++ fs)) e).decision.runner ≡ n → (step L (run L start (es ++ fs)) e).decision.answer ≡ a →
      from_a_thread a ≡ true → SentIn L (run L start es) (fs ++ (e ∷ [])) n a
  no_late_answer = late.no_late_answer L some few

  -- Nothing is owed to a newcomer.
  pub newcomer_is_owed_nothing : (es : Input) (e : List ℕ) (n : ℕ) {a : Answer} →
      live n (run L start es) ≡ false → Owed L (es ++ (e ∷ [])) n a → ⊥
  newcomer_is_owed_nothing = late.newcomer_is_owed_nothing L some few

  -- "Sender gone" is told only to a thread that received from the one that ended.
  pub gone_was_waited_for : (es : Input) (e : List ℕ) (n m : ℕ) →
      (step L (run L start es) e).decision.runner ≡ n → (step L (run L start es) e).decision.answer ≡ SenderGone m →
      Told L (es ++ (e ∷ [])) n m
  gone_was_waited_for = late.gone_was_waited_for L some few

-- The name given is the first of the successors, modulo 254, that no live thread has.
pub name_is_first_free : (T : Tables) → T.last < names → length T.threads < names →
    (i : ℕ) × (1 ≤ i) × (next_name T ≡ (T.last + i) % names) × (live (next_name T) T ≡ false)
    × ((j : ℕ) → 1 ≤ j → j < i → live ((T.last + j) % names) T ≡ true)
name_is_first_free = names.name_is_first_free
