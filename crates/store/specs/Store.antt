-- What a memory stands for, in the words of the contracts. All that is above the store speaks of these; none of it looks inside Shaped
-- and Holding.
use Rattle.std.specs.Prelude.{◌≡◌, ℕ, ◌≤◌, Bool, List, Option, None, Some}
use Rattle.std.specs.List.{find}
use Rattle.std.specs.Option.{option_map}
use Rattle.rules.specs.Lists.{count, Pulled, missing, pulled}
use Rattle.laws.specs.Words.{Limits}
use Rattle.laws.specs.Words.{Thread, Message, Answer}
use Rattle.laws.specs.Types.{Rising}
use Rattle.rules.specs.Tables.{Tables, named, with_messages}
use Rattle.rules.specs.Waking.{Outcome, ◌handing◌}
use Rattle.memory.specs.Rows.{view, members, Fits}
pub use Rattle.memory.specs.Rows.{Room, nothing}
unfoldable pub use Rattle.memory.specs.Rows.{word_for, place}
pub use Rattle.memory.specs.Rows.{held_word}
pub use Rattle.moving.specs.Marks.{Marks}
use Rattle.memory.specs.Memory.{rows_of}

unfoldable pub limits : List ℕ → Limits
limits m = (rows_of m).limits

unfoldable pub tables : List ℕ → Tables
tables m = view (rows_of m)

-- the memory is as long as its limits ask, and its counts are within them
unfoldable pub Shaped : List ℕ → Type 0
Shaped m = Fits (rows_of m).limits (rows_of m)

-- and its threads stand by rising name, so that each name is there once at most: what the store asks of handlers
pub record Holding (m : List ℕ) : Type 0 where
  pub shaped : Shaped m
  pub rising : Rising (tables m).threads
  pub once : (n : ℕ) → count (named n) (tables m).threads ≤ 1

-- the memory m became m', which stands for these tables, with the same limits
pub record Leaves (m m' : List ℕ) (T : Tables) : Type 0 where
  pub says : tables m' ≡ T
  pub same : limits m' ≡ limits m
  pub holding : Holding m'

-- and this answer is handed to a runner that goes on
pub record Hands (m m' : List ℕ) (a : Answer) (o : Outcome) : Type 0 where
  pub says : (tables m' handing a) ≡ o
  pub same : limits m' ≡ limits m
  pub holding : Holding m'

-- the same while tables are filled in, when a name may still come twice
pub record Fills (m m' : List ℕ) (T : Tables) : Type 0 where
  pub says : tables m' ≡ T
  pub same : limits m' ≡ limits m
  pub shaped : Shaped m'

-- what a search took out
pub record Takes (m m' : List ℕ) (g : Option Message) (p : Pulled Message) : Type 0 where
  pub none : p ≡ missing → (g ≡ None) × Leaves m m' (tables m)
  pub one : (x : Message) (ms : List Message) → p ≡ pulled x ms → (g ≡ Some x) × Leaves m m' (with_messages ms (tables m))

-- ---- an ending

-- who an ending has found so far, in the order found
unfoldable pub found : List ℕ → List ℕ
found m = members (rows_of m)

-- there is room for those found
pub record Finding (m : List ℕ) : Type 0 where
  pub holding : Holding m
  pub low : (rows_of m).ends ≤ (limits m).threads

-- these are found now, and the tables are as they were
pub record Finds (m m' : List ℕ) (l : List ℕ) : Type 0 where
  pub set : found m' ≡ l
  pub says : tables m' ≡ tables m
  pub same : limits m' ≡ limits m
  pub finding : Finding m'

-- the tables changed, and who was found stays
pub record Removes (m m' : List ℕ) (T : Tables) : Type 0 where
  pub leaves : Leaves m m' T
  pub set : found m' ≡ found m
  pub finding : Finding m'

-- ---- what a search gives

-- the name of the first that passes
abbrev pub name_where : (Thread → Bool) → List Thread → Option ℕ
name_where p ts = option_map (λ t. t.name) (find p ts)
