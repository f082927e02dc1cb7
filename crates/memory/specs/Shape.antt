-- When a memory of any length and contents is shaped for limits: it is long enough, and its head has them and counts within them.
use Rattle.std.specs.Prelude.{ℕ, ◌+◌, Bool, List, [], ◌∷◌, leb, length, ◌==◌}
use Rattle.rules.specs.Lists.{all}
use Rattle.laws.specs.Words.{Limits}
use Rattle.words.specs.Saying.{word}
use Rattle.memory.specs.Layout.{size}

-- length, limits and counts
unfoldable pub shaped : Limits → List ℕ → Bool
shaped L m =
    all (λ b. b)
    (leb (size L) (length m) ∷ (word m 0 == L.threads) ∷ (word m 1 == L.blocks)
    ∷ leb (word m 7) L.threads ∷ leb (word m 8) L.threads ∷ leb (word m 9) L.threads ∷ leb (word m 10) (L.threads + L.blocks)
    ∷ [])
