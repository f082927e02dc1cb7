-- The bytes that document 01 gives to a request and to an interrupt.
use Rattle.std.specs.Prelude.{ℕ, ◌/◌, List, [], ◌∷◌, ◌++◌}
use Rattle.rules.specs.Lists.{four_bytes}
use Rattle.rules.specs.Numbers.{wrap}

-- "18 request (service 1, argument 1)"
abbrev pub asking : ℕ → ℕ → List ℕ
asking s a = 18 ∷ 0 ∷ 2 ∷ s ∷ a ∷ []

-- "21 interrupt (pending devices 8, bit n for device n; status 4)"
abbrev pub interrupting : ℕ → ℕ → List ℕ
interrupting p w = 21 ∷ 0 ∷ 12 ∷ (four_bytes (p / wrap) ++ (four_bytes p ++ four_bytes w))
