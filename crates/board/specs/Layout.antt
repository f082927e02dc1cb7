-- How many bytes the structs take that C code and the library share.
-- What it says of C is the rule that #[repr(C)] names; that the compiler keeps it is not proved.
use Rattle.std.specs.Prelude.{ℕ, ◌+◌, ◌-◌, ◌*◌, ◌/◌, List, [], ◌∷◌, leb, if◌then◌else◌}
use Rattle.board.specs.declared.Sizes.{Sizes}

-- a type in C: its bytes, and the number that its place is a multiple of
pub record Laid : Type 0 where
  pub bytes : ℕ
  pub align : ℕ

-- the next multiple, from n on
abbrev pub up_to : ℕ → ℕ → ℕ
up_to align n = (n + (align - 1)) / align * align

-- fields one behind the other, from place n on: where the last one ends
unfoldable pub end_of : ℕ → List Laid → ℕ
end_of n [] = n
end_of n (f ∷ fs) = end_of (up_to f.align n + f.bytes) fs

unfoldable pub largest_align : List Laid → ℕ
largest_align [] = 1
largest_align (f ∷ fs) = let s = largest_align fs in if leb f.align s then s else f.align

-- a struct is filled up to a multiple of the largest of its fields' alignments
unfoldable pub struct : List Laid → Laid
struct fs = let s = largest_align fs in record { bytes = up_to s (end_of 0 fs); align = s }

unfoldable pub array : ℕ → Laid → Laid
array n f = record { bytes = n * f.bytes; align = f.align }

-- the numbers
abbrev pub u8 : Laid
u8 = record { bytes = 1; align = 1 }

abbrev pub u32 : Laid
u32 = record { bytes = 4; align = 4 }

-- the structs, field by field (crates/lending/src/lib.rt, crates/board/src/lib.rt)
unfoldable pub lent_tables : Laid
lent_tables = struct (array 656 u32 ∷ [])

unfoldable pub report : Laid
report = struct (u8 ∷ u8 ∷ u8 ∷ u8 ∷ u8 ∷ u32 ∷ [])

-- "1,241 bytes always suffice" (proofs/DumpRoom.antt)
abbrev pub enough_for_a_dump : ℕ
enough_for_a_dump = 1241

unfoldable pub sizes_of : Sizes
sizes_of = record { tables = lent_tables.bytes; report = report.bytes; dump = enough_for_a_dump }
