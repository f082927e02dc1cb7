-- Which words are shown in a dump as they stand: those that would be written for what they say.
use Rattle.std.specs.Prelude.{ℕ, Bool, ◌&&◌, ◌||◌, List, [], ◌∷◌, ltb, if◌then◌else◌, ◌==◌}
use Rattle.rules.specs.Numbers.{nobody, service}
use Rattle.rules.specs.Codes.{state_numbers}
use Rattle.laws.specs.Words.{State}
use Rattle.words.specs.Saying.{byte}

-- "state (0 to 5, in the order listed above), detail"
abbrev pub state_value : State → List ℕ
state_value s = let n = state_numbers s in n.state ∷ n.detail ∷ []

-- the words of a state and its detail
unfoldable pub state_right : ℕ → ℕ → Bool
state_right s d = if d == 0 then ltb s 6 else (if s == 5 then ltb d 3 else (s == 2) || (s == 4))

-- the words of an answer's kind, sender and word
unfoldable pub answer_right : ℕ → ℕ → ℕ → Bool
answer_right k n w = if (n == 0) && (w == 0) then ltb k 5 else (if k == 3 then w == 0 else (if k == 4 then n == 0 else (k == 1) || (k == 2)))

-- "None is 0, 255, 0. .. kind 4 has sender 254."
unfoldable pub sender_number : ℕ → ℕ → ℕ
sender_number k n = if k == 0 then nobody else (if k == 4 then service else byte n)
