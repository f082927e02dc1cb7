-- Interrupt.
use Rattle.std.specs.Prelude.{ℕ, Bool, not, List, ltb, if◌then◌else◌, ◌==◌}
use Rattle.rules.specs.Lists.{any, keep, insert}
use Rattle.rules.specs.Words.{Result, Held}
use Rattle.rules.specs.Tables.{Tables, with_held}
use Rattle.rules.specs.States.{waits_for}
use Rattle.rules.specs.Waking.{wake_by_name}

-- the word held for a device
abbrev pub held_for : ℕ → Held → Bool
held_for d h = h.device == d

-- "the word is held, replacing one held before"
unfoldable pub hold : ℕ → ℕ → List Held → List Held
hold d w hs = insert (λ h. ltb h.device d) (record { device = d; word = w }) (keep (λ h. not (held_for d h)) hs)

-- "The picked device's waiter becomes ready with the status word. With no waiter the word is held"
unfoldable pub interrupt : ℕ → ℕ → Tables → Tables
interrupt d w T = if any (waits_for d) T.threads then wake_by_name (waits_for d) (λ t. Result w) T else with_held (hold d w T.held) T
