-- The reader of events.
use Rattle.std.specs.Prelude.{ℕ, List, drop, Option}
use Rattle.std.specs.Borrow.{Bor}
use Rattle.std.specs.Iterator.{YieldsFirstRef}
use Rattle.fields.specs.declared.reader.Reader.{Reader}
use Rattle.rules.specs.Fields.{complete}

-- a reader of these bytes at a place: the very slice, not a copy
abbrev pub reader_at : Bor (List ℕ) → ℕ → Reader
reader_at input place = record { input = input; place = place }

-- the whole fields from its place on
abbrev pub wholes : Reader → List (List ℕ)
wholes r = complete (drop r.place r.input.now)

-- a call gives the first of them and leaves the others
abbrev pub GivesWhole : Reader → Option (Bor (List ℕ)) → Reader → Type 0
GivesWhole = YieldsFirstRef wholes
