-- Calls of start_in, step_in and batch, one after the other; and what two results of a batch agree in.
use Rattle.std.specs.Prelude.{ℕ, ◌≡◌, true, List, [], ◌∷◌, ◌++◌, length}
use Rattle.rules.specs.Dump.{dump}
use Rattle.rules.specs.Runs.{Input}
use Rattle.rules.specs.Batch.{taken}
use Rattle.rules.specs.declared.Decision.{Decision}
use Rattle.store.specs.Store.{tables}
use Rattle.lending.specs.Lent.{valid, Answered, Started}
use Rattle.batching.specs.Batching.{decided, all_refused, Served}

-- The memory after a start and these events, in single steps and in batches, by any results that the promises allow. A batch runs the
-- events that it takes.
pub data Series : Input → List ℕ → Type 0 where
  started : (m : List ℕ) → Started m → Series [] m
  stepped : (es : Input) (m e m' : List ℕ) (d : Decision) → Series es m → Answered m e m' d → Series (es ++ (e ∷ [])) m'
  batched : (es : Input) (m bytes before m' after : List ℕ) (n : ℕ) → Series es m → Served m bytes before m' after n
      → Series (es ++ (taken (length before) bytes).events) m'

-- What two results of a batch agree in that runs the events es on m: the refusals n and k, every number of the buffers x and y; of the
-- memories a and b the tables and their dump, where m is valid, and every word, where no event is accepted.
pub record SameResults (m : List ℕ) (es : Input) (n k : ℕ) (x y a b : List ℕ) : Type 0 where
  pub refusal : n ≡ k
  pub numbers : x ≡ y
  pub leaves : valid m ≡ true → (tables a ≡ tables b) × (dump (tables a) ≡ dump (tables b))
  pub keeps : all_refused (decided m es) ≡ true → a ≡ b
