-- The document's listing: the bytes of its input, and its whole output, line by line.
use Rattle.std.specs.Prelude.{ℕ, ◌≡◌, refl, List, [], ◌∷◌, ◌++◌}
use Prim.Native.Char.{code}
use Prim.Native.String.{String, [] as end, ◌∷◌ as ◌then◌}
use Rattle.rules.specs.Lists.{each}
use Rattle.rules.specs.Opened.{opened}
use Rattle.fields.specs.Fields.{field_size}
use Rattle.lines.specs.Text.{decimal_in, numbers_line}
use Rattle.lines.specs.Text.{last_line}
use Rattle.printing.specs.Printing.{prints_in, output}

-- a text in ASCII, as bytes
unfoldable pub ascii : String → List ℕ
ascii end = []
ascii (c then s) = code c ∷ ascii s

abbrev pub listing_input : List ℕ
listing_input =
    0x12 ∷ 0x00 ∷ 0x02 ∷ 0x02 ∷ 0x00
    ∷ 0x11 ∷ 0x00 ∷ 0x01 ∷ 0xFF
    ∷ 0x10 ∷ 0x00 ∷ 0x05 ∷ 0x00 ∷ 0x00 ∷ 0x00 ∷ 0x00 ∷ 0x07
    ∷ 0x12 ∷ 0x00 ∷ 0x02 ∷ 0x07 ∷ 0x00
    ∷ 0x12 ∷ 0x00 ∷ 0x02 ∷ 0x03 ∷ 0xFF
    ∷ 0x10 ∷ 0x00 ∷ 0x05 ∷ 0x01 ∷ 0x00 ∷ 0x00 ∷ 0x00 ∷ 0x09
    ∷ 0x12 ∷ 0x00 ∷ 0x02 ∷ 0x08 ∷ 0x00
    ∷ 0x10 ∷ 0x00 ∷ 0x05 ∷ 0x00 ∷ 0x00 ∷ 0x00 ∷ 0x00 ∷ 0x01
    ∷ []

abbrev pub listing_output : List String
listing_output =
    "1 0 0 0 4 254 1"
    ∷ "2 0 0 1 0 255 0"
    ∷ "3 0 0 1 0 255 0"
    ∷ "4 0 0 1 4 254 0"
    ∷ "5 0 0 0 1 1 7"
    ∷ "6 4 0 0 0 255 0"
    ∷ "7 0 1 255 0 255 0"
    ∷ "8 3 1 255 0 255 0"
    ∷ "SYSTEM UP"
    ∷ []

-- each line ends with a line feed, the last one too
pub the_listing : output listing_input ≡ each (λ s. ascii s ++ (10 ∷ [])) listing_output
unfolding opened field_size decimal_in numbers_line last_line prints_in ascii
the_listing = refl
