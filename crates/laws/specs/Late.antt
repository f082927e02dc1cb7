-- Who has sent an answer, in the receiver's present life.
use Rattle.std.specs.Prelude.{ℕ, ◌≡◌, Bool, true, false}
use mathlib.Core.List.{List, [], ◌∷◌, ◌++◌, Memᴰ}
use Rattle.laws.specs.Words.{Limits}
use Rattle.laws.specs.Words.{Only, TrapKind, Receiving, Answer, Nothing, FromMessage, FromNotice, SenderGone, Result, Unset, Set}
use Rattle.laws.specs.Words.{Thread, Runs, Send, Trap, ByRunner}
use Rattle.rules.specs.Tables.{Tables, live, of_thread, manager, start}
use Rattle.rules.specs.Send.{decides}
use Rattle.rules.specs.Events.{decode}
use Rattle.rules.specs.Step.{step}
use Rattle.rules.specs.Runs.{Input, run}

-- a message or a notice: what one thread sent and another is handed
unfoldable pub from_a_thread : Answer → Bool
from_a_thread Nothing = false
from_a_thread (FromMessage n w) = true
from_a_thread (FromNotice n w) = true
from_a_thread (SenderGone n) = false
from_a_thread (Result w) = false

-- In tables T the event with these bytes is accepted and sends the answer to thread n: as a message of the runner that is no
-- decision, or as the notice of its trap, where n is its manager for that kind.
pub data Sends (L : Limits) (T : Tables) (bytes : List ℕ) : ℕ → Answer → Type 0 where
  a_message : {s q n w : ℕ} → (step L T bytes).decision.refusal ≡ 0 → T.runner ≡ Runs s q →
      decode bytes ≡ ByRunner (Send n w) → decides s n T ≡ false →
      Sends L T bytes n (FromMessage s w)
  a_notice : {s q n c : ℕ} {k : TrapKind} → (step L T bytes).decision.refusal ≡ 0 → T.runner ≡ Runs s q →
      decode bytes ≡ ByRunner (Trap k c) → of_thread Unset (λ t. manager k t.managers) s T.threads ≡ Set n →
      Sends L T bytes n (FromNotice s c)

-- After these events, from a start, the answer has been sent to thread n in its present life: the last event sends it, or it was
-- so before the last event; and n is live after that event. A name that is live before and after an event is that of the same
-- thread: an event that creates a thread ends none, and gives it a name that is not live.
pub data Owed (L : Limits) : Input → ℕ → Answer → Type 0 where
  sent : (es : Input) (e : List ℕ) {n : ℕ} {a : Answer} →
      Sends L (run L start es) e n a → live n (run L start (es ++ (e ∷ []))) ≡ true →
      Owed L (es ++ (e ∷ [])) n a
  still : (es : Input) (e : List ℕ) {n : ℕ} {a : Answer} →
      Owed L es n a → live n (run L start (es ++ (e ∷ []))) ≡ true →
      Owed L (es ++ (e ∷ [])) n a

-- One of these events, from tables T on, sends the answer to thread n.
pub record SentIn (L : Limits) (T : Tables) (es : Input) (n : ℕ) (a : Answer) : Type 0 where
  pub earlier : Input
  pub event : List ℕ
  pub later : Input
  pub among : es ≡ earlier ++ (event ∷ later)
  pub sends : Sends L (run L T earlier) event n a

-- After these events, from a start, thread n has been told in its present life that m is gone: the last event ended m while n was
-- receiving from m, or it was so before the last event; and n is live after that event.
pub data Told (L : Limits) : Input → ℕ → ℕ → Type 0 where
  ended : (es : Input) (e : List ℕ) (t : Thread) {n m : ℕ} →
      Memᴰ t (run L start es).threads → t.name ≡ n → t.state ≡ Receiving (Only m) →
      live m (run L start es) ≡ true → live m (run L start (es ++ (e ∷ []))) ≡ false →
      live n (run L start (es ++ (e ∷ []))) ≡ true →
      Told L (es ++ (e ∷ [])) n m
  still_told : (es : Input) (e : List ℕ) {n m : ℕ} →
      Told L es n m → live n (run L start (es ++ (e ∷ []))) ≡ true →
      Told L (es ++ (e ∷ [])) n m
