-- The foremost of the pending devices, in document 02's words.
use Rattle.std.specs.Prelude.{ℕ, ◌+◌, ◌*◌, ◌≤◌, ◌<◌, ◌≡◌, ◌⊎◌, true, false}
use Rattle.rules.specs.Numbers.{devices}
use Rattle.rules.specs.Pick.{pending}
use Rattle.laws.specs.Words.{Picked}

-- The device that the pick shall take of those that are pending, in the words of document 02, CR 1; "Terminal d of line 7 transmits as
-- 32 + 2d and receives as 33 + 2d".
pub data Foremost (w d : ℕ) : Type 0 where
  -- "the lowest pending number from 0 to 31"
  on_a_line : d < 32 → ((m : ℕ) → m < d → pending w m ≡ false) → Foremost w d
  -- "then the lowest transmitter"
  transmits : (t : ℕ) → t < 8 → d ≡ 32 + 2 * t
      → ((m : ℕ) → m < 32 → pending w m ≡ false)
      → ((s : ℕ) → s < t → pending w (32 + 2 * s) ≡ false) → Foremost w d
  -- "then the lowest receiver"
  receives : (t : ℕ) → t < 8 → d ≡ 33 + 2 * t
      → ((m : ℕ) → m < 32 → pending w m ≡ false)
      → ((s : ℕ) → s < 8 → pending w (32 + 2 * s) ≡ false)
      → ((s : ℕ) → s < t → pending w (33 + 2 * s) ≡ false) → Foremost w d

-- the foremost of the pending devices is taken
abbrev pub Takes : ℕ → Picked → Type 0
Takes w p = (d : ℕ) × (p ≡ record { refusal = 0; device = d }) × (d < devices) × (pending w d ≡ true) × Foremost w d

-- no device is pending, or one over 47 is
abbrev pub Unservable : ℕ → Type 0
Unservable w = ((n : ℕ) → pending w n ≡ false) ⊎ ((n : ℕ) × (devices ≤ n) × (pending w n ≡ true))
