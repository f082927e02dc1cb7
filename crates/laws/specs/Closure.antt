-- What the ended set is to be: closed over children and over those trapped on a member.
use Rattle.std.specs.Prelude.{ℕ, ◌≡◌, Bool, true, false}
use mathlib.Core.List.{List, Memᴰ}
use Rattle.rules.specs.Words.{by_parent}
use Rattle.laws.specs.Words.{Thread}
use Rattle.rules.specs.States.{awaits}

-- ---- what the set is to be: a test on names that passes, with each name, its children and those trapped on it
pub record Closed (p : ℕ → Bool) (ts : List Thread) : Type 0 where
  pub children : (t : Thread) → Memᴰ t ts → by_parent false p t.parent ≡ true → p t.name ≡ true
  pub trapped : (t : Thread) → Memᴰ t ts → (m : ℕ) → awaits m t ≡ true → p m ≡ true → p t.name ≡ true
