-- Fields one behind the other: how long the first one of some bytes is, whether it is all there, and all that are. "A field is a tag
-- byte, a two-byte length, then the value; numbers are big-endian."
use Rattle.std.specs.Prelude.{ℕ, zero, suc, ◌+◌, ◌*◌, min, Bool, false, List, [], ◌∷◌, leb, length, take, drop, if◌then◌else◌}

-- "reading goes on behind their length; a field cut off by the end of input is the last": how long the first field of these bytes is
unfoldable pub field_size : List ℕ → ℕ
field_size [] = 0
field_size (tag ∷ []) = 1
field_size (tag ∷ high ∷ []) = 2
field_size (tag ∷ high ∷ low ∷ rest) = 3 + min (high * 256 + low) (length rest)

-- is the first field all there?
unfoldable pub whole : List ℕ → Bool
whole [] = false
whole (tag ∷ []) = false
whole (tag ∷ high ∷ []) = false
whole (tag ∷ high ∷ low ∷ rest) = leb (high * 256 + low) (length rest)

-- a "complete field" (document 02, CR 2): its head and its declared length are there, whatever it holds. The complete fields of these
-- bytes, at most k
unfoldable pub complete_in : ℕ → List ℕ → List (List ℕ)
complete_in zero bytes = []
complete_in (suc k) bytes = let n = field_size bytes in if whole bytes then take n bytes ∷ complete_in k (drop n bytes) else []

-- what is left behind k complete fields, or behind all there are
unfoldable pub unread_in : ℕ → List ℕ → List ℕ
unread_in zero bytes = bytes
unread_in (suc k) bytes = if whole bytes then unread_in k (drop (field_size bytes) bytes) else bytes

-- no complete field is shorter than a byte
abbrev pub complete : List ℕ → List (List ℕ)
complete bytes = complete_in (length bytes) bytes

abbrev pub unread : List ℕ → List ℕ
unread bytes = unread_in (length bytes) bytes
