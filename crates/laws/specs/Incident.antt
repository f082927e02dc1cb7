-- A name given again, and the new life of its thread.
use Rattle.std.specs.Prelude.{ℕ, ◌≤◌, ◌≡◌, true, false}
use mathlib.Core.List.{List, [], ◌∷◌, ◌++◌, Memᴰ}
use Rattle.laws.specs.Words.{Limits}
use Rattle.rules.specs.Tables.{Tables, live, start}
use Rattle.rules.specs.Step.{step}
use Rattle.rules.specs.Runs.{Input, run}
use Rattle.laws.specs.Words.{Only, Receiving, Answer, Nothing, SenderGone, Result, Thread}
use Rattle.laws.specs.Late.{Sends}
use Rattle.laws.specs.Handed.{Answers, WokenBy}
use Rattle.laws.specs.Givings.{given_by, givings}
use Rattle.laws.specs.Rest.{others}

-- In tables T the event with these bytes is what the answer of thread n comes from: it sends it the message or notice; it ends the thread
-- that n receives from; it is n's own request and has the result at once; or it wakes n with the result of one.
pub data Gets (L : Limits) (T : Tables) (bytes : List ℕ) (n : ℕ) : Answer → Type 0 where
  a_word : {a : Answer} → Sends L T bytes n a → Gets L T bytes n a
  an_end : {m : ℕ} (t : Thread) → Memᴰ t T.threads → t.name ≡ n → t.state ≡ Receiving (Only m) →
      live m T ≡ true → live m (step L T bytes).tables ≡ false →
      Gets L T bytes n (SenderGone m)
  at_once : {w : ℕ} → Answers L T bytes n w → Gets L T bytes n (Result w)
  by_waking : {w : ℕ} → WokenBy L T bytes n w → Gets L T bytes n (Result w)

-- The answer of thread n comes from one of these events, from tables T on. No answer comes from nothing.
pub data OfThese (L : Limits) (T : Tables) (es : Input) (n : ℕ) : Answer → Type 0 where
  none : OfThese L T es n Nothing
  one : (earlier : Input) (event : List ℕ) (later : Input) {a : Answer} → es ≡ earlier ++ (event ∷ later) →
      Gets L (run L T earlier) event n a → OfThese L T es n a

-- From a start: these events have given the name n (the start has, if it is 0), then those between; and the event behind them gives n
-- again.
pub record GivenAgain (L : Limits) (es : Input) (event : List ℕ) (n : ℕ) : Type 0 where
  pub earlier : List ℕ
  pub between : List ℕ
  pub given : 0 ∷ givings L start es ≡ earlier ++ (n ∷ between)
  pub again : given_by L (run L start es) event ≡ n ∷ []

-- What then holds, with k others at least: the thread that had the name has ended; so many threads of other names have been created since
-- it was given; and whatever a later event e hands to thread n comes from one of the events behind the giving, up to e.
pub record ANewLife (L : Limits) (k : ℕ) (es : Input) (event : List ℕ) (n : ℕ) (between : List ℕ) : Type 0 where
  pub ended_before : live n (run L start es) ≡ false
  pub rested : k ≤ others n between
  pub own : (fs : Input) (e : List ℕ) → (step L (run L start (es ++ (event ∷ fs))) e).decision.runner ≡ n →
      OfThese L (run L start (es ++ (event ∷ []))) (fs ++ (e ∷ [])) n (step L (run L start (es ++ (event ∷ fs))) e).decision.answer
