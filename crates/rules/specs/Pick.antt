-- The pick: which of the pending devices is served.
use Rattle.std.specs.Prelude.{ℕ, ◌+◌, ◌-◌, ◌*◌, ◌/◌, ◌%◌, ◌^◌, Bool, List, [], ◌∷◌, ◌++◌, map, if◌then◌else◌, ◌==◌}
use Rattle.rules.specs.Lists.{any, from_on}
use Rattle.rules.specs.Numbers.{nobody, devices, line_devices, terminals, pending_bits}
use Rattle.rules.specs.Words.{Picked}

-- "bit n for device n"
abbrev pub pending : ℕ → ℕ → Bool
pending word n = word / 2 ^ n % 2 == 1

-- "Lines 3 to 6 have eight devices each, numbered (line − 3) × 8 + device, 0 to 31"
abbrev pub lines : List ℕ
lines = from_on 0 line_devices

-- "Terminal d of line 7 transmits as 32 + 2d and receives as 33 + 2d"
abbrev pub transmitter : ℕ → ℕ
transmitter d = line_devices + 2 * d

abbrev pub receiver : ℕ → ℕ
receiver d = line_devices + 1 + 2 * d

abbrev pub transmitters : List ℕ
transmitters = map transmitter (from_on 0 terminals)

abbrev pub receivers : List ℕ
receivers = map receiver (from_on 0 terminals)

-- "The pick shall take the lowest pending number from 0 to 31, then the lowest transmitter, then the lowest receiver" (document 02, CR 1):
-- the order in which devices are looked at
abbrev pub pick_order : List ℕ
pick_order = lines ++ (transmitters ++ receivers)

-- "no pending device or one over 47" is refused with 2; "a refused pick [has] device 255"
abbrev pub no_pick : Picked
no_pick = record { refusal = 2; device = nobody }

-- the first pending one of a list of devices
unfoldable pub first_pending : ℕ → List ℕ → Picked
first_pending word [] = no_pick
first_pending word (d ∷ ds) = let later = first_pending word ds in if pending word d then record { refusal = 0; device = d } else later

unfoldable pub pick : ℕ → Picked
pick word = if any (pending word) (from_on devices (pending_bits - devices)) then no_pick else first_pending word pick_order
