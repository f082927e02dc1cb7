-- Entries one behind another, as the words from the first of them on show them.
use Rattle.std.specs.Prelude.{ℕ, zero, suc, List, [], ◌∷◌, take, drop}
use Rattle.laws.specs.Words.{Thread, Message}
use Rattle.words.specs.Saying.{word, byte, thread_in, message_in}

-- n entries of so many words each; f: what the words from an entry on say of it
unfoldable pub entries {ℓ} : {A : Type ℓ} → (List ℕ → A) → ℕ → ℕ → List ℕ → List A
entries f size zero w = []
entries f size (suc n) w = f w ∷ entries f size n (drop size w)

abbrev pub thread_first : List ℕ → Thread
thread_first w = thread_in (take 11 w)

abbrev pub message_first : List ℕ → Message
message_first w = message_in (take 3 w)

abbrev pub name_first : ℕ → List ℕ → ℕ
name_first at w = byte (word w at)
