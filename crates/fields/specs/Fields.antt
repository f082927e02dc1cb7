-- The fields of a stream of events, and the end of lent bytes.
use Rattle.std.specs.Prelude.{ℕ, ◌+◌, ◌-◌, ◌≡◌, List, length, drop}
use Rattle.std.specs.Borrow.{Bor}
use Rattle.fields.specs.declared.Cut.{Cut}
unfoldable pub use Rattle.rules.specs.Fields.{field_size, whole}

-- the field at a place of these bytes: where it ends, and whether it is all there; at their end and past it, none: it ends at the place
abbrev pub cut : List ℕ → ℕ → Cut
cut bytes place = record { end = place + field_size (drop place bytes); whole = whole (drop place bytes) }

-- r ends where the lent bytes s end, in the same memory: it is a part of them, no copy, and not the same bytes at another place
abbrev pub EndsWith : Bor (List ℕ) → Bor (List ℕ) → Type 0
EndsWith s r = r.ref_ptr ≡ (s.ref_ptr.0, (length s.now - length r.now) + s.ref_ptr.1)

-- r is the end of the lent bytes s from a place on
pub record EndOf (s : Bor (List ℕ)) (place : ℕ) (r : Bor (List ℕ)) : Type 0 where
  pub bytes : r.now ≡ drop place s.now
  pub ends_there : EndsWith s r
