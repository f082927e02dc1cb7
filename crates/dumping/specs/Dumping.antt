-- What the writer of dumps asks of a memory, and the held word of a device.
use Rattle.std.specs.Prelude.{ℕ, ◌≡◌, true, List, [], ◌∷◌, ltb, if◌then◌else◌}
use Rattle.rules.specs.Lists.{all, any, chain}
use Rattle.rules.specs.Numbers.{devices}
use Rattle.laws.specs.Words.{Held}
use Rattle.rules.specs.Interrupt.{held_for}
use Rattle.store.specs.Store.{tables, Shaped, word_for}

-- held words are found device by device, so each has one of the 48, and they rise; the table rules say both
pub record Dumpable (m : List ℕ) : Type 0 where
  pub shaped : Shaped m
  pub told : all (λ h. ltb h.device devices) (tables m).held ≡ true
  pub rising : chain (λ h k. ltb h.device k.device) (tables m).held ≡ true

-- the word that is held for a device, if one is
unfoldable pub held_at : ℕ → List Held → List Held
held_at d hs = if any (held_for d) hs then record { device = d; word = word_for d hs } ∷ [] else []
