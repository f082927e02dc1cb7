-- What can be wrong with the bytes of an event.
use Rattle.std.specs.Prelude.{ℕ, ◌+◌, ◌*◌, ◌/◌, ◌%◌, ◌^◌, ◌≤◌, ◌<◌, ◌≡◌, ◌≢◌, length, take, drop, get_or, if◌then◌else◌, ◌==◌}
use mathlib.Core.List.{List, [], ◌∷◌, Memᴰ}
use Rattle.rules.specs.Lists.{number}

abbrev pub tag : List ℕ → ℕ
tag bytes = get_or bytes 0 0

abbrev pub declared : List ℕ → ℕ
declared bytes = get_or bytes 1 0 * 256 + get_or bytes 2 0

-- the first byte of the value: a request's service, a trap's kind
abbrev pub first : List ℕ → ℕ
first bytes = get_or bytes 3 0

-- the second: a request's argument
abbrev pub second : List ℕ → ℕ
second bytes = get_or bytes 4 0

-- "pending devices 8"
abbrev pub pending_word : List ℕ → ℕ
pending_word bytes = number (take 8 (drop 3 bytes))

-- "bit n for device n"
abbrev pub bit : ℕ → ℕ → ℕ
bit w n = w / 2 ^ n % 2

-- "16 send (name 1, word 4), 17 receive (name 1), 18 request (service 1, argument 1), 19 trap (kind 1, cause 4), 20 tick (empty),
-- 21 interrupt (pending devices 8, ..; status 4)"
unfoldable pub value_length : ℕ → ℕ
value_length t =
    if t == 16 then 5 else (
    if t == 17 then 1 else (
    if t == 18 then 2 else (
    if t == 19 then 5 else (
    if t == 20 then 0 else (
    12)))))

-- "service not 1 to 9, its argument not 0 where it must be, .. device over 47"
pub data BadRequest (s a : ℕ) : Type 0 where
  service_0 : s ≡ 0 → BadRequest s a
  service_over_9 : 9 < s → BadRequest s a
  argument_not_0 : Memᴰ s (1 ∷ 2 ∷ 7 ∷ 8 ∷ []) → a ≢ 0 → BadRequest s a
  device_over_47 : s ≡ 9 → 47 < a → BadRequest s a

-- "not exactly one well-formed field; .. trap kind over 2, .. no pending device or one over 47"
pub data Flaw (bytes : List ℕ) : Type 0 where
  no_byte : (b : ℕ) → Memᴰ b bytes → 256 ≤ b → Flaw bytes
  too_short : length bytes < 3 → Flaw bytes
  tag_under_16 : tag bytes < 16 → Flaw bytes
  tag_over_21 : 21 < tag bytes → Flaw bytes
  wrong_length : declared bytes ≢ value_length (tag bytes) → Flaw bytes
  behind_or_missing : length bytes ≢ 3 + declared bytes → Flaw bytes
  bad_request : tag bytes ≡ 18 → BadRequest (first bytes) (second bytes) → Flaw bytes
  kind_over_2 : tag bytes ≡ 19 → 2 < first bytes → Flaw bytes
  none_pending : tag bytes ≡ 21 → ((n : ℕ) → n < 64 → bit (pending_word bytes) n ≡ 0) → Flaw bytes
  one_over_47 : tag bytes ≡ 21 → (n : ℕ) → 47 < n → n < 64 → bit (pending_word bytes) n ≡ 1 → Flaw bytes
