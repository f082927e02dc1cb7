-- A name given twice, the names between, and how long a name rests.
use Rattle.std.specs.Prelude.{ℕ, ◌-◌, ◌≡◌, not, List, ◌∷◌, ◌++◌, ◌==◌}
use Rattle.rules.specs.Lists.{count}
use Rattle.rules.specs.Numbers.{names}
use Rattle.laws.specs.Words.{Limits}

-- Among the names given a name stands twice. Those between are the names of the threads created between the two givings.
pub record Twice (n : ℕ) (given : List ℕ) : Type 0 where
  pub earlier : List ℕ
  pub between : List ℕ
  pub later : List ℕ
  pub among : given ≡ earlier ++ (n ∷ (between ++ (n ∷ later)))

-- how many of these names are other names than n
unfoldable pub others : ℕ → List ℕ → ℕ
others n given = count (λ m. not (n == m)) given

-- how many threads of other names are created at least before a name comes round: of the 253 others, those that no other thread can have
abbrev pub rest : Limits → ℕ
rest L = (names - 1) - (L.threads - 1)

-- 64 threads and 128 blocks: the laws are over the limits, and hold for these too
abbrev pub big : Limits
big = record { threads = 64; blocks = 128 }
