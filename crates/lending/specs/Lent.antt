-- The public operations on a lent memory, of any length and contents.
use Rattle.std.specs.Prelude.{ℕ, Bool, true, false, ◌&&◌, ◌≡◌, ◌≢◌, Result, Ok, Err, List, ◌++◌, leb, length, drop, if◌then◌else◌}
use Rattle.std.specs.Result.{result_unwrap_or}
use Rattle.rules.specs.Numbers.{small}
use Rattle.rules.specs.Tables.{start}
use Rattle.rules.specs.Step.{step}
use Rattle.rules.specs.Dump.{dump}
use Rattle.rules.specs.Refused.{refusal_told}
use Rattle.rules.specs.declared.Decision.{Decision}
use Rattle.rules.specs.declared.Answer.TheVariants.{Nothing}
use Rattle.rules.specs.declared.refusal.Refusal.{Refusal}
use Rattle.rules.specs.declared.refusal.Refusal.TheVariants.{NoTables}
use Rattle.store.specs.Store.{tables}
use Rattle.checking.specs.Stands.{stands}
use Rattle.lending.specs.declared.Tables.{Tables as Lent}
use Rattle.lending.specs.declared.NextTables.{NextTables}
use Rattle.lending.specs.declared.Dumped.{Dumped}

-- it stands for tables that meet the table rules
abbrev pub valid : List ℕ → Bool
valid m = stands small m

-- "11: the lent tables stand for none that meet the table rules"; "for 11 both are 255"
abbrev pub no_tables : Decision
no_tables = record { refusal = 11; status = 255; runner = 255; answer = Nothing }

-- A step on a lent memory m, which became m': the rules' decision and tables where m is valid, else 11; refused, every word is as it was.
pub record Answered (m bytes m' : List ℕ) (d : Decision) : Type 0 where
  pub decides : valid m ≡ true → d ≡ (step small (tables m) bytes).decision
  pub leaves : valid m ≡ true → (valid m' ≡ true) × (tables m' ≡ (step small (tables m) bytes).tables)
  pub refuses : valid m ≡ false → d ≡ no_tables
  pub keeps : d.refusal ≢ 0 → m' ≡ m

-- a started memory
pub record Started (m : List ℕ) : Type 0 where
  pub valid : valid m ≡ true
  pub says : tables m ≡ start

-- the same for a struct that holds the memory
abbrev pub AnsweredValue : Lent → List ℕ → NextTables → Type 0
AnsweredValue t bytes s = Answered t.words bytes s.tables.words s.decision

-- the check of a lent memory: refusal 11, or 0
unfoldable pub check_of : List ℕ → ℕ
check_of m = if valid m then 0 else 11

-- the same as an outcome
unfoldable pub standing_of : List ℕ → Result (Unit {0}) Refusal
standing_of m = if valid m then Ok tt else Err NoTables

-- what a dump's outcome answers: the refusal, and the length or 0
unfoldable pub outcome_of : Result ℕ Refusal → Dumped
outcome_of o = record { refusal = refusal_told o; length = result_unwrap_or o 0 }

-- "12: dump buffer shorter than the dump"; "A refused dump has length 0". 11 comes first.
unfoldable pub dumped : List ℕ → ℕ → Dumped
dumped m room =
    let n = length (dump (tables m)) in
    if valid m then (if leb n room then record { refusal = 0; length = n } else record { refusal = 12; length = 0 })
    else record { refusal = 11; length = 0 }

-- "a refusal changes no byte of .. any buffer"; "bytes behind the dump stay"
unfoldable pub buffer_after : List ℕ → List ℕ → List ℕ
buffer_after m before =
    let bytes = dump (tables m) in
    if valid m && leb (length bytes) (length before) then bytes ++ drop (length bytes) before else before
