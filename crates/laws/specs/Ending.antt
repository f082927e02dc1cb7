-- What an ending leaves: who is forgotten, and what becomes of everybody else.
use Rattle.std.specs.Prelude.{ℕ, ◌≡◌, true, false}
use mathlib.Core.List.{List, Memᴰ}
use Rattle.rules.specs.Lists.{has}
use Rattle.laws.specs.Words.{Only, TrapKind, Ready, Receiving, SenderGone, Set, ParentIs, Thread, Message, Runs}
use Rattle.rules.specs.Tables.{Tables, manager}
use Rattle.rules.specs.Ending.{gone_if}

-- no place of the tables names a member of the set
pub record Forgotten (set : List ℕ) (T : Tables) : Type 0 where
  pub threads : (t : Thread) → Memᴰ t T.threads → has t.name set ≡ false
  pub parents : (t : Thread) → Memᴰ t T.threads → (n : ℕ) → t.parent ≡ ParentIs n → has n set ≡ false
  pub wanted : (t : Thread) → Memᴰ t T.threads → (n : ℕ) → t.state ≡ Receiving (Only n) → has n set ≡ false
  pub managers : (t : Thread) → Memᴰ t T.threads → (k : TrapKind) (n : ℕ) → manager k t.managers ≡ Set n → has n set ≡ false
  pub senders : (m : Message) → Memᴰ m T.messages → has m.from set ≡ false
  pub receivers : (m : Message) → Memᴰ m T.messages → has m.to set ≡ false
  pub ready : (n : ℕ) → Memᴰ n T.ready → has n set ≡ false
  pub clock : (n : ℕ) → Memᴰ n T.clock → has n set ≡ false
  pub runner : (n s : ℕ) → T.runner ≡ Runs n s → has n set ≡ false

-- u is what has become of thread t, who is no member: a receiver from a member is told so, others are in the same state
-- with the same answer; manager entries that name a member are gone
pub record Survives (set : List ℕ) (t u : Thread) : Type 0 where
  pub name : u.name ≡ t.name
  pub parent : u.parent ≡ t.parent
  pub ticks : u.ticks ≡ t.ticks
  pub managers : (k : TrapKind) → manager k u.managers ≡ gone_if set (manager k t.managers)
  pub same : ((n : ℕ) → t.state ≡ Receiving (Only n) → has n set ≡ false) → (u.state ≡ t.state) × (u.answer ≡ t.answer)
  pub told : (n : ℕ) → t.state ≡ Receiving (Only n) → has n set ≡ true → (u.state ≡ Ready) × (u.answer ≡ SenderGone n)
