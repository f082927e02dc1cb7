-- What becomes of a manager entry over an event.
use Rattle.std.specs.Prelude.{ℕ, ◌≡◌, false}
use Rattle.rules.specs.Tables.{Tables, live}
use Rattle.laws.specs.Words.{TrapKind, Unset, Set, Gone, SetManager, Event, ByRunner}
use Rattle.laws.specs.Requests.{entry, requester}

-- the entry of thread n for a kind, over an event: it stays; or it named a thread that has ended, and is gone; or it was unset, and its
-- thread has set it
pub data Fate (k : TrapKind) (n : ℕ) (T : Tables) (e : Event) (U : Tables) : Type 0 where
  stays : entry k n U.threads ≡ entry k n T.threads → Fate k n T e U
  goes : (m : ℕ) → entry k n T.threads ≡ Set m → live m U ≡ false → entry k n U.threads ≡ Gone → Fate k n T e U
  is_set : (x : ℕ) → entry k n T.threads ≡ Unset → entry k n U.threads ≡ Set x → e ≡ ByRunner (SetManager k x) → requester T ≡ n →
      Fate k n T e U
