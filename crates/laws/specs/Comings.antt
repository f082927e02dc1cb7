-- Which event brings a thread, and what it is that nobody comes.
use Rattle.std.specs.Prelude.{ℕ, ◌≡◌, Bool, true, false}
use Rattle.rules.specs.Tables.{Tables, live}
use Rattle.laws.specs.Words.{Send, Receive, CreateBrother, CreateSon, Terminate, SetManager, GetCpuTime, WaitForClock, WaitForIo}
use Rattle.laws.specs.Words.{Trap, Event, Malformed, ByRunner, Tick, Interrupt}

-- request 1 or 2
unfoldable pub creates : Event → Bool
creates Malformed = false
creates (ByRunner (Send n w)) = false
creates (ByRunner (Receive w)) = false
creates (ByRunner CreateBrother) = true
creates (ByRunner CreateSon) = true
creates (ByRunner (Terminate n)) = false
creates (ByRunner (SetManager k n)) = false
creates (ByRunner GetCpuTime) = false
creates (ByRunner WaitForClock) = false
creates (ByRunner (WaitForIo d)) = false
creates (ByRunner (Trap k c)) = false
creates Tick = false
creates (Interrupt d w) = false

-- from tables T to U nobody comes, and the name given last stays
pub record NobodyComes (T U : Tables) : Type 0 where
  pub last : U.last ≡ T.last
  pub before : (n : ℕ) → live n U ≡ true → live n T ≡ true
