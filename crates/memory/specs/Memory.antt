-- The rows that a memory holds. Hints and spare words are no part of them.
use Rattle.std.specs.Prelude.{ℕ, zero, suc, ◌+◌, List, [], ◌∷◌, length, take, drop}
use Rattle.rules.specs.Lists.{each, from_on}
use Rattle.rules.specs.Numbers.{devices}
use Rattle.laws.specs.Words.{Limits}
use Rattle.laws.specs.Words.{Thread, Message, Held}
use Rattle.words.specs.Saying.{word, byte, thread_in, message_in, held_in, runner_in}
use Rattle.memory.specs.Layout.{thread_place, message_place, held_place}
use Rattle.memory.specs.Rows.{Rows}

-- f from i on, n times
unfoldable pub row {ℓ} : {A : Type ℓ} → (ℕ → A) → ℕ → ℕ → List A
row f i zero = []
row f i (suc n) = f i ∷ row f (suc i) n

-- n words from a on
abbrev pub part : List ℕ → ℕ → ℕ → List ℕ
part m a n = take n (drop a m)

abbrev pub limits_in : List ℕ → Limits
limits_in m = record { threads = word m 0; blocks = word m 1 }

abbrev pub thread_of : List ℕ → ℕ → Thread
thread_of m i = thread_in (part m (thread_place i) 11)

abbrev pub ready_of : List ℕ → ℕ → ℕ
ready_of m i = byte (word m (thread_place i + 12))

abbrev pub clock_of : List ℕ → ℕ → ℕ
clock_of m i = byte (word m (thread_place i + 13))

abbrev pub ended_of : List ℕ → ℕ → ℕ
ended_of m i = byte (word m (thread_place i + 14))

abbrev pub message_of : List ℕ → ℕ → Message
message_of m i = message_in (part m (message_place (word m 0) i) 3)

abbrev pub held_of : List ℕ → ℕ → List Held
held_of m d = held_in d (word m (held_place d)) (word m (held_place d + 1))

unfoldable pub rows_of : List ℕ → Rows
rows_of m =
    record {
      room = length m;
      limits = limits_in m;
      last = byte (word m 2);
      runner = runner_in (word m 3) (word m 4);
      since = byte (word m 5);
      beats = word m 6;
      count = word m 7;
      readies = word m 8;
      clocks = word m 9;
      letters = word m 10;
      ends = word m 11;
      threads = row (thread_of m) 0 (word m 0);
      ready = row (ready_of m) 0 (word m 0);
      clock = row (clock_of m) 0 (word m 0);
      messages = row (message_of m) 0 (word m 0 + word m 1);
      held = each (held_of m) (from_on 0 devices);
      ended = row (ended_of m) 0 (word m 0);
    }
