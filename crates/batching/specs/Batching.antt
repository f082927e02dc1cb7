-- A batch on a lent memory of any length and contents.
use Rattle.std.specs.Prelude.{ℕ, ◌*◌, ◌≤◌, Bool, true, not, ◌≡◌, List, [], ◌∷◌, ◌++◌, map, length, drop, if◌then◌else◌, ◌==◌}
use Rattle.std.specs.Borrow.{Bor}
use Rattle.rules.specs.Lists.{all}
use Rattle.rules.specs.Numbers.{small}
use Rattle.rules.specs.Runs.{Input, run, decisions}
use Rattle.rules.specs.Batch.{complete, unread, numbers, taken}
use Rattle.rules.specs.declared.Decision.{Decision}
use Rattle.store.specs.Store.{tables}
use Rattle.buffer.specs.Puts.{Puts}
use Rattle.fields.specs.Fields.{EndsWith}
use Rattle.lending.specs.Lent.{valid, no_tables, Answered}
use Rattle.lending.specs.declared.Tables.{Tables as Lent}
use Rattle.batching.specs.declared.Batched.{Batched}
use Rattle.batching.specs.declared.complete.Complete.{Complete}

-- ---- what the code promises itself

-- the complete fields of some bytes, counted: none is shorter than its head
pub record AllCounted (bytes : List ℕ) (c : Complete) : Type 0 where
  pub count : c.count ≡ length (complete bytes)
  pub rest : drop c.end bytes ≡ unread bytes
  pub within : c.end ≤ length bytes
  pub heads : 3 * c.count ≤ c.end

-- Single calls in order, on a memory that became another one, with their decisions: any results that the promise of a step allows.
pub data SingleCalls (m : List ℕ) : Input → List Decision → List ℕ → Type 0 where
  none : SingleCalls m [] [] m
  call : (es : Input) (ds : List Decision) (m₁ e m₂ : List ℕ) (d : Decision) → SingleCalls m es ds m₁ → Answered m₁ e m₂ d
      → SingleCalls m (es ++ (e ∷ [])) (ds ++ (d ∷ [])) m₂

-- the complete fields were run by single calls, and the buffer holds their decisions
pub record RanAll (m bytes before m' after : List ℕ) : Type 0 where
  pub said : List Decision
  pub filled : ℕ
  pub calls : SingleCalls m (complete bytes) said m'
  pub puts : Puts (numbers said) before after filled

-- ---- what a batch promises

-- the decisions of these events on a lent memory: those of the rules, or 11 for each, where it stands for no tables that meet the table
-- rules
unfoldable pub decided : List ℕ → Input → List Decision
decided m es = if valid m then decisions small (tables m) es else map (λ _. no_tables) es

-- "Numbers behind the last decision stay"
unfoldable pub numbers_after : List ℕ → Input → List ℕ → List ℕ
numbers_after m es before = let ns = numbers (decided m es) in ns ++ drop (length ns) before

-- was each of these events refused?
abbrev pub all_refused : List Decision → Bool
all_refused ds = all (λ d. not (d.refusal == 0)) ds

-- A batch on a lent memory m, which became m': the refusal, every number of the buffer, and the tables. Where no event is accepted, every
-- word is as it was.
pub record Served (m bytes before m' after : List ℕ) (n : ℕ) : Type 0 where
  pub refusal : n ≡ (taken (length before) bytes).refusal
  pub numbers : after ≡ numbers_after m (taken (length before) bytes).events before
  pub leaves : valid m ≡ true → (valid m' ≡ true) × (tables m' ≡ run small (tables m) (taken (length before) bytes).events)
  pub keeps : all_refused (decided m (taken (length before) bytes).events) ≡ true → m' ≡ m

-- and how many bytes are read: never more than there are, so that one number alone is right
pub record Serves (m bytes before m' after : List ℕ) (used n : ℕ) : Type 0 where
  pub served : Served m bytes before m' after n
  pub unread : drop used bytes ≡ (taken (length before) bytes).unread
  pub within : used ≤ length bytes

-- "hands back the unread end of the caller's bytes as it stands": s is what the caller lends, r what is handed back
pub record Batches (m : List ℕ) (s : Bor (List ℕ)) (before : List ℕ) (r : Bor (List ℕ)) (m' after : List ℕ) (n : ℕ) : Type 0 where
  pub served : Served m s.now before m' after n
  pub unread : r.now ≡ (taken (length before) s.now).unread
  pub ends_there : EndsWith s r

-- the same for a struct that holds the memory
abbrev pub BatchesValue : Lent → List ℕ → List ℕ → List ℕ → Batched → Type 0
BatchesValue t bytes before after b = Serves t.words bytes before b.tables.words after b.used b.refusal
