-- What the reader of dumps promises on a lent memory.
use Rattle.std.specs.Prelude.{ℕ, true, ◌≡◌, ◌≢◌, List}
use Rattle.rules.specs.Numbers.{small}
use Rattle.rules.specs.Tables.{Tables}
use Rattle.rules.specs.Load.{loaded, load}
use Rattle.rules.specs.Faults.{verdict}
use Rattle.rules.specs.declared.Verdict.{Verdict}
use Rattle.store.specs.Store.{tables}
use Rattle.checking.specs.Stands.{stands}

-- A dump read into a lent memory m, which became m': refused, every word is as it was.
pub record Loads (m bytes m' : List ℕ) (v : Verdict) : Type 0 where
  pub decides : v ≡ verdict small bytes
  pub leaves : (T : Tables) → load small bytes ≡ loaded T → (stands small m' ≡ true) × (tables m' ≡ T)
  pub keeps : v.refusal ≢ 0 → m' ≡ m

-- the verdict on a dump
abbrev pub accepted : Verdict
accepted = record { refusal = 0; offset = 0 }
