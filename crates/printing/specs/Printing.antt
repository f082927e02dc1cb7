-- The event program: the fields of its input, what it prints for what is left of it, and what one turn of it asks and promises.
use Rattle.std.specs.Prelude.{ℕ, zero, suc, ◌+◌, ◌≤◌, Bool, true, ◌&&◌, ◌||◌, not, ◌≡◌, List, [], ◌∷◌, ◌++◌, eqb, ltb, length, take, drop}
use Rattle.rules.specs.Numbers.{small}
use Rattle.rules.specs.Tables.{Tables, start}
use Rattle.rules.specs.Dispatch.{status}
use Rattle.rules.specs.Step.{step}
use Rattle.rules.specs.Runs.{Input, run}
use Rattle.store.specs.Store.{limits, tables}
use Rattle.handling.specs.Standing.{AtRest}
use Rattle.fields.specs.Fields.{field_size, whole}
use Rattle.lines.specs.Text.{line, last_line}
use Rattle.printing.specs.declared.Turned.{Turned}

-- "prints per field one line", then the last line; at most n fields
unfoldable pub prints_in : ℕ → ℕ → Tables → List ℕ → List ℕ
prints_in zero k T bytes = last_line (status T)
prints_in (suc n) k T [] = last_line (status T)
prints_in (suc n) k T (b ∷ bytes) =
    let size = field_size (b ∷ bytes) in
    let s = step small T (take size (b ∷ bytes)) in
    line k s.decision ++ prints_in n (suc k) s.tables (drop size (b ∷ bytes))

-- what is printed from line k on, for tables and what is left of the input; no field is shorter than a byte
abbrev pub prints : ℕ → Tables → List ℕ → List ℕ
prints k T bytes = prints_in (length bytes) k T bytes

-- "From a start, .. whole output"
abbrev pub output : List ℕ → List ℕ
output input = prints 1 start input

-- the events of a stream: its fields, at most n
unfoldable pub fields_in : ℕ → List ℕ → Input
fields_in zero bytes = []
fields_in (suc n) [] = []
fields_in (suc n) (b ∷ bytes) = let size = field_size (b ∷ bytes) in take size (b ∷ bytes) ∷ fields_in n (drop size (b ∷ bytes))

abbrev pub fields : List ℕ → Input
fields bytes = fields_in (length bytes) bytes

-- the memory of a program: it stands, and has the document's limits
pub record Standing (m : List ℕ) : Type 0 where
  pub at_rest : AtRest m
  pub small : limits m ≡ small

-- One turn of the program: `used` bytes of what was read are served, and `filled` bytes of the buffer hold their lines. Whatever input
-- comes behind (nothing, where the input has ended), what is to be printed is these lines and then what the rest prints.
pub record Turns (m : List ℕ) (k : ℕ) (input : List ℕ) (ended : Bool) (before after : List ℕ) (t : Turned) (m' : List ℕ) : Type 0 where
  pub standing : Standing m'
  pub used : t.used ≤ length input
  pub filled : t.filled ≤ length before
  pub numbered : t.line ≤ k + t.used
  pub prints : (more : List ℕ) → (ended ≡ true → more ≡ [])
      → prints k (tables m) (input ++ more) ≡ take t.filled after ++ prints t.line (tables m') (drop t.used input ++ more)
  -- the events served: the first fields of the input, whatever comes behind; the tables are those of the rules' run over them
  pub served : Input
  pub first : (more : List ℕ) → (ended ≡ true → more ≡ []) → fields (input ++ more) ≡ served ++ fields (drop t.used input ++ more)
  pub leaves : tables m' ≡ run small (tables m) served
  pub stays : drop t.filled after ≡ drop t.filled before
  -- it stops where all is served, no room for a line is left, or the next field is not all there yet
  pub stops : (eqb t.used (length input) || ltb (length before) (t.filled + 160) || (not ended && not (whole (drop t.used input))))
      ≡ true
