-- The marks of live names.
use Rattle.std.specs.Prelude.{ℕ, Bool, false, List, ◌≡◌, get_or}
use Rattle.rules.specs.Tables.{live}
use Rattle.rules.specs.Load.{told}
use Rattle.faults.specs.declared.names.Living.{Living}

unfoldable pub lives_in : Living → ℕ → Bool
lives_in L n = get_or L.marks n false

-- the marks of all names that the bytes tell
pub record Named (bytes : List ℕ) (L : Living) : Type 0 where
  pub so : lives_in L ≡ (λ n. live n (told bytes))
