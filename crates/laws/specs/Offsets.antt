-- Where fields begin, and the earliest of some offsets.
use Rattle.std.specs.Prelude.{ℕ, ◌+◌, ◌≤◌, ◌≡◌, true, take, drop}
use mathlib.Core.List.{List, Memᴰ}
use Rattle.rules.specs.Fields.{field_size, whole}
use Rattle.rules.specs.Load.{as_field}
use Rattle.rules.specs.Faults.{Placed, placed}
use Rattle.laws.specs.Batch.{past}

-- going from field to field over complete ones leads to this offset
pub data Reached : List ℕ → ℕ → Type 0 where
  front : {l : List ℕ} → Reached l 0
  behind : {l : List ℕ} {k : ℕ} → whole l ≡ true → Reached (past l) k → Reached l (field_size l + k)

-- A complete field begins at an offset: it is reached from field to field, the bytes from there on open with a complete field, and that
-- is listed with this offset.
pub record BeginsAt (bytes : List ℕ) (o : ℕ) : Type 0 where
  pub reached : Reached bytes o
  pub all_there : whole (drop o bytes) ≡ true
  pub one : Placed
  pub listed : Memᴰ one (placed bytes)
  pub there : one.at ≡ o
  pub it : one.field ≡ as_field (take (field_size (drop o bytes)) (drop o bytes))

-- "within it the earliest field": it is listed, and nothing that is listed stands before it
pub record Earliest (o : ℕ) (l : List ℕ) : Type 0 where
  pub listed : Memᴰ o l
  pub least : (x : ℕ) → Memᴰ x l → o ≤ x
