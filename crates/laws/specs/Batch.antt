-- Bytes as complete fields, one behind the other.
use Rattle.std.specs.Prelude.{ℕ, ◌*◌, Bool, ◌&&◌, List, length, drop, ◌==◌}
use Rattle.rules.specs.Lists.{each}
use Rattle.rules.specs.Numbers.{decision_numbers}
use Rattle.rules.specs.Runs.{Input}
use Rattle.rules.specs.Fields.{field_size, whole}
use Rattle.rules.specs.Batch.{complete}

-- exactly one complete field
abbrev pub one_field : List ℕ → Bool
one_field f = whole f && (field_size f == length f)

-- the bytes behind the first field
abbrev pub past : List ℕ → List ℕ
past l = drop (field_size l) l

-- bytes from fields, one behind the other
abbrev pub joined : Input → List ℕ
joined fs = each (λ f. f) fs

-- how many numbers the decisions of these bytes' complete fields need
abbrev pub needed : List ℕ → ℕ
needed bytes = decision_numbers * length (complete bytes)
