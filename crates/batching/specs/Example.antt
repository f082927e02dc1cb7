-- Document 01's listing as one batch, with a malformed field and a cut one behind it.
use Rattle.std.specs.Prelude.{ℕ, List, [], ◌∷◌, ◌++◌}
use Rattle.rules.specs.Lists.{each}
use Rattle.rules.specs.Benches.{P1}
use Rattle.rules.specs.Batch.{numbers, Batched}

-- what a batch tells: the refusal, the numbers, and the unread end
pub record Told : Type 0 where
  pub refusal : ℕ
  pub numbers : List ℕ
  pub unread : List ℕ

abbrev pub told : Batched → Told
told b = record { refusal = b.refusal; numbers = numbers b.decisions; unread = b.unread }

-- tag 99 is none; and of a receive the name has not come yet
abbrev pub malformed : List ℕ
malformed = 99 ∷ 0 ∷ 1 ∷ 7 ∷ []

abbrev pub cut_short : List ℕ
cut_short = 0x11 ∷ 0 ∷ 1 ∷ []

abbrev pub gathered : List ℕ
gathered = each (λ f. f) P1.input ++ (malformed ++ cut_short)
