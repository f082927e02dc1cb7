-- The dump and its reader.
use Rattle.std.specs.Prelude.{ℕ, ◌≤◌, ◌≡◌, true, List, ◌≢◌, ◌↔◌, length}
use Rattle.rules.specs.Numbers.{small}
use Rattle.laws.specs.Words.{Limits}
use Rattle.rules.specs.Tables.{Tables}
use Rattle.rules.specs.TableRules.{table_rules}
use Rattle.rules.specs.Dump.{dump}
use Rattle.rules.specs.Load.{loaded, load, no_dump}
use Rattle.laws.proofs.Dump as dump
use Rattle.laws.proofs.DumpLength as dump_length

-- Reading the dump of ruled tables gives the same tables.
pub load_dump : (L : Limits) (T : Tables) → table_rules L T ≡ true → load L (dump T) ≡ loaded T
load_dump = dump.load_dump

-- Whatever bytes are read are the dump of the tables that they give, and these are ruled.
pub load_is_dump : (L : Limits) (bytes : List ℕ) (T : Tables) → load L bytes ≡ loaded T → (table_rules L T ≡ true) × (dump T ≡ bytes)
load_is_dump = dump.load_is_dump

-- Bytes are refused exactly if they are the dump of no ruled tables.
pub accepted_exactly_dumps : (L : Limits) (bytes : List ℕ) →
    (load L bytes ≡ no_dump) ↔ ((T : Tables) → table_rules L T ≡ true → dump T ≢ bytes)
accepted_exactly_dumps = dump.accepted_exactly_dumps

-- Two ruled tables with equal dumps are equal.
pub dump_tells : (L : Limits) (T U : Tables) → table_rules L T ≡ true → table_rules L U ≡ true → dump T ≡ dump U → T ≡ U
dump_tells = dump.dump_tells

-- A dump of small tables has at most 1,241 bytes.
pub dump_fits_small : (T : Tables) → table_rules small T ≡ true → length (dump T) ≤ 1241
dump_fits_small = dump_length.dump_fits_small
