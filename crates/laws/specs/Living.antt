-- Names of live threads in every place of the tables, and a newcomer that nothing names.
use Rattle.std.specs.Prelude.{ℕ, ◌≡◌, ◌≢◌, true}
use mathlib.Core.List.{Memᴰ}
use Rattle.rules.specs.Lists.{times_in}
use Rattle.rules.specs.Tables.{Tables, live, manager}
use Rattle.laws.specs.Words.{Only, TrapKind, Ready, Receiving, Device, Trapped, Nothing, Set, ParentIs, Thread, Message, Runs}

-- Every name in these places is a live thread's: messages, waits, parents, managers and the runner. The answers that are due are not
-- among them.
pub record NamesTheLiving (T : Tables) : Type 0 where
  -- messages and notices
  pub senders : (m : Message) → Memᴰ m T.messages → live m.from T ≡ true
  pub receivers : (m : Message) → Memᴰ m T.messages → live m.to T ≡ true
  -- waits: for a thread's message, for a manager's decision, for a device, for the clock, for the processor
  pub wanted : (t : Thread) → Memᴰ t T.threads → (n : ℕ) → t.state ≡ Receiving (Only n) → live n T ≡ true
  pub awaited : (t : Thread) → Memᴰ t T.threads → (k : TrapKind) → t.state ≡ Trapped k →
      (n : ℕ) × (manager k t.managers ≡ Set n) × (live n T ≡ true)
  pub at_devices : (t : Thread) → Memᴰ t T.threads → (d : ℕ) → t.state ≡ Device d → live t.name T ≡ true
  pub on_the_clock : (n : ℕ) → Memᴰ n T.clock → live n T ≡ true
  pub ready : (n : ℕ) → Memᴰ n T.ready → live n T ≡ true
  -- parents, managers and the runner
  pub parents : (t : Thread) → Memᴰ t T.threads → (n : ℕ) → t.parent ≡ ParentIs n → live n T ≡ true
  pub managers : (t : Thread) → Memᴰ t T.threads → (k : TrapKind) (n : ℕ) → manager k t.managers ≡ Set n → live n T ≡ true
  pub runner : (n s : ℕ) → T.runner ≡ Runs n s → live n T ≡ true

-- Thread n has its own row and its place in the ready queue. No message, wait, parent, manager or runner names it, and no answer is due
-- to it.
pub record NotYetNamed (n : ℕ) (T : Tables) : Type 0 where
  pub senders : (m : Message) → Memᴰ m T.messages → m.from ≢ n
  pub receivers : (m : Message) → Memᴰ m T.messages → m.to ≢ n
  pub wanted : (t : Thread) → Memᴰ t T.threads → (x : ℕ) → t.state ≡ Receiving (Only x) → x ≢ n
  pub on_the_clock : (x : ℕ) → Memᴰ x T.clock → x ≢ n
  pub parents : (t : Thread) → Memᴰ t T.threads → (x : ℕ) → t.parent ≡ ParentIs x → x ≢ n
  pub managers : (t : Thread) → Memᴰ t T.threads → (k : TrapKind) (x : ℕ) → manager k t.managers ≡ Set x → x ≢ n
  pub runner : (x s : ℕ) → T.runner ≡ Runs x s → x ≢ n
  pub state : (t : Thread) → Memᴰ t T.threads → t.name ≡ n → (t.state ≡ Ready) × (t.answer ≡ Nothing)
  pub ready : times_in T.ready n ≡ 1
