-- An accepted request, its requester, and the thread that it makes.
use Rattle.std.specs.Prelude.{ℕ, ◌≡◌, ◌⊎◌, false}
use mathlib.Core.List.{List, Memᴰ}
use Rattle.laws.specs.Words.{Limits}
use Rattle.rules.specs.Tables.{Tables, live, of_thread, manager, me}
use Rattle.rules.specs.Events.{decode}
use Rattle.rules.specs.Refusals.{refusal}
use Rattle.laws.specs.Words.{TrapKind, Ready, Answer, Nothing, Result, Manager, Unset, Parent, Thread, Call, ByRunner}

-- the bytes are this call of the runner, and it is accepted
pub record Accepted (L : Limits) (T : Tables) (bytes : List ℕ) (c : Call) : Type 0 where
  pub asked : decode bytes ≡ ByRunner c
  pub accepted : refusal L T (decode bytes) ≡ 0

-- the requester: the runner's name
abbrev pub requester : Tables → ℕ
requester T = me T.runner

-- the manager entry of thread n for a kind
abbrev pub entry : TrapKind → ℕ → List Thread → Manager
entry k n ts = of_thread Unset (λ t. manager k t.managers) n ts

-- one thread more, ready, with a name that nobody had, no managers, count 0 and no answer; a is the requester's answer
pub record Made (p : Parent) (T U : Tables) (a : Answer) : Type 0 where
  pub thread : Thread
  pub there : Memᴰ thread U.threads
  pub told : a ≡ Result thread.name
  pub new : live thread.name T ≡ false
  pub parent : thread.parent ≡ p
  pub state : thread.state ≡ Ready
  pub managers : (k : TrapKind) → manager k thread.managers ≡ Unset
  pub ticks : thread.ticks ≡ 0
  pub answer : thread.answer ≡ Nothing
  pub others : (t : Thread) → Memᴰ t T.threads → Memᴰ t U.threads
  pub only : (t : Thread) → Memᴰ t U.threads → (t ≡ thread) ⊎ Memᴰ t T.threads
