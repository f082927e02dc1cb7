-- A ready thread with its answer, over an event and over a run.
use Rattle.std.specs.Prelude.{ℕ, ◌≡◌, ◌≢◌, false}
use mathlib.Core.List.{List, [], ◌∷◌, Memᴰ}
use Rattle.laws.specs.Words.{Limits}
use Rattle.laws.specs.Words.{State, Running, Ready, Answer, Nothing, Thread}
use Rattle.rules.specs.Tables.{Tables, live}
use Rattle.rules.specs.Step.{step}
use Rattle.rules.specs.Runs.{Input}

-- Among these threads is one of name n in state s with answer a.
pub record ThereIs (ts : List Thread) (n : ℕ) (s : State) (a : Answer) : Type 0 where
  pub thread : Thread
  pub there : Memᴰ thread ts
  pub name : thread.name ≡ n
  pub state : thread.state ≡ s
  pub answer : thread.answer ≡ a

-- What an event does to a thread n that is ready with the answer a: it still waits, ready with this answer, and does not run; or it
-- runs, is handed this answer, and has none of its own any more; or it has ended, and does not run.
pub data Becomes (L : Limits) (T : Tables) (bytes : List ℕ) (n : ℕ) (a : Answer) : Type 0 where
  it_waits : ThereIs (step L T bytes).tables.threads n Ready a → (step L T bytes).decision.runner ≢ n → Becomes L T bytes n a
  it_runs : (step L T bytes).decision.runner ≡ n → (step L T bytes).decision.answer ≡ a →
      ThereIs (step L T bytes).tables.threads n Running Nothing → Becomes L T bytes n a
  it_ended : live n (step L T bytes).tables ≡ false → (step L T bytes).decision.runner ≢ n → Becomes L T bytes n a

-- The same along a run, from tables T on: thread n is ready with the answer a, event after event, until an event runs it with this
-- answer, or ends it, or the events are over.
pub data Until (L : Limits) (n : ℕ) (a : Answer) : Tables → Input → Type 0 where
  so_far : (T : Tables) → ThereIs T.threads n Ready a → Until L n a T []
  longer : (T : Tables) (e : List ℕ) (es : Input) → ThereIs T.threads n Ready a → (step L T e).decision.runner ≢ n →
      Until L n a (step L T e).tables es → Until L n a T (e ∷ es)
  is_run : (T : Tables) (e : List ℕ) (es : Input) → ThereIs T.threads n Ready a →
      (step L T e).decision.runner ≡ n → (step L T e).decision.answer ≡ a → ThereIs (step L T e).tables.threads n Running Nothing →
      Until L n a T (e ∷ es)
  ends : (T : Tables) (e : List ℕ) (es : Input) → ThereIs T.threads n Ready a → live n (step L T e).tables ≡ false →
      (step L T e).decision.runner ≢ n → Until L n a T (e ∷ es)
