-- The numbers of document 01 ("Numbers") and of document 02, each once.
use Rattle.std.specs.Prelude.{ℕ}
-- "threads, ordinary message blocks: 20 each". The rules are stated over the limits.
pub use Rattle.rules.specs.declared.numbers.Limits.{Limits}

abbrev pub small : Limits
small = record { threads = 20; blocks = 20 }

-- "thread names: 0 to 253"
abbrev pub names : ℕ
names = 254

-- "254: the SSI; among managers, gone"
abbrev pub service : ℕ
service = 254

-- "255: nobody, anybody, or oneself, as stated"
abbrev pub nobody : ℕ
nobody = 255

-- "slice: 5 ticks"
abbrev pub full_slice : ℕ
full_slice = 5

-- "beat (pseudo-clock): every 20 ticks"
abbrev pub beat_ticks : ℕ
beat_ticks = 20

-- "devices: 0 to 47"; the pending word has 64 bits
abbrev pub devices : ℕ
devices = 48

-- "Lines 3 to 6 have eight devices each, .. 0 to 31"; the terminals' numbers begin behind them
abbrev pub line_devices : ℕ
line_devices = 32

-- the terminals of line 7: 32 to 47 are eight pairs of transmitter and receiver
abbrev pub terminals : ℕ
terminals = 8

-- "pending devices 8": eight bytes
abbrev pub pending_bits : ℕ
pending_bits = 64

-- counts, beats and words are 32-bit: they are below this, and counts "go from 4,294,967,295 to 0"
abbrev pub wrap : ℕ
wrap = 4294967296

-- document 02, CR 2: "the decisions as 32-bit numbers, six per event"
abbrev pub decision_numbers : ℕ
decision_numbers = 6
