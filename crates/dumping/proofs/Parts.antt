-- The parts of a dump: the bytes of field 1, how long a dump is up to each part, and that it is short.
use Prim.Native.Nat.{ℕ, ◌+◌, ◌*◌, ◌≤◌, ◌<◌}
use mathlib.Core.Path.{◌≡◌, ap}
use mathlib.Core.List.{List, ◌∷◌, ◌++◌}
use native.Mathlib.Omega.{arith}
use lib.ListN.{length, length-append}
use Rattle.rules.specs.Lists.{each, four_bytes}
use Rattle.rules.specs.Numbers.{names, devices}
use Rattle.rules.specs.Tables.{Tables, me}
use Rattle.rules.specs.Dispatch.{status}
use Rattle.rules.specs.Codes.{status_code, slice_code}
use Rattle.rules.specs.Dump.{field, head_value, thread_value, message_value, dump}
use Rattle.laws.proofs.Tally.{length_each}
use Rattle.laws.proofs.DumpLength.{head_length, thread_length, message_length, dump_length}
use Rattle.memory.specs.Layout.{most_blocks}
use Rattle.store.specs.Store.{tables}
use Rattle.store.proofs.Limits.{names_left}
use Rattle.store.proofs.Lengths.{threads_limit, ready_limit, clock_limit, messages_limit, blocks_limit}
use Rattle.buffer.specs.Puts.{Puts}
use Rattle.buffer.proofs.Putting.{said}
use Rattle.dumping.specs.Dumping.{Dumpable}
use Rattle.dumping.proofs.Walks.{held_few}

-- ---- field 1

pub head_bytes : (T : Tables) {x l n s i b : ℕ} → x ≡ status_code (status T) → l ≡ T.last → n ≡ me T.runner →
    s ≡ slice_code T.runner → i ≡ T.since → b ≡ T.beats →
    (1 ∷ 0 ∷ 9 ∷ x ∷ l ∷ n ∷ s ∷ i ∷ four_bytes b) ≡ field 1 (head_value T)
unfolding head_value
head_bytes T p q r t u v = λ j. 1 ∷ 0 ∷ 9 ∷ p j ∷ q j ∷ r j ∷ t j ∷ u j ∷ four_bytes (v j)

-- ---- a dump up to each of its parts, and how long that is

module _ (T : Tables) where
  abbrev pub to_threads : List ℕ
  to_threads = field 1 (head_value T) ++ each (λ t. field 2 (thread_value t)) T.threads

  abbrev pub to_ready : List ℕ
  to_ready = to_threads ++ field 3 T.ready

  abbrev pub to_clock : List ℕ
  to_clock = to_ready ++ field 4 T.clock

  abbrev pub to_messages : List ℕ
  to_messages = to_clock ++ each (λ m. field 5 (message_value m)) T.messages

  pub record Lengths : Type 0 where
    pub head : length (field 1 (head_value T)) ≡ 12
    pub threads : length to_threads ≡ 12 + 20 * length T.threads
    pub ready : length to_ready ≡ 15 + 20 * length T.threads + length T.ready
    pub clock : length to_clock ≡ 18 + 20 * length T.threads + length T.ready + length T.clock
    pub messages : length to_messages ≡ 18 + 20 * length T.threads + length T.ready + length T.clock + 10 * length T.messages
    pub whole : length (dump T) ≡ 18 + 20 * length T.threads + length T.ready + length T.clock + 10 * length T.messages + 8
        * length T.held

  pub lengths : Lengths
  lengths =
      let head : length (field 1 (head_value T)) ≡ 12 = omega (arith, head_length T) in
      let threads : length to_threads ≡ 12 + 20 * length T.threads = omega (
        arith,
        length-append (field 1 (head_value T)) (each (λ t. field 2 (thread_value t)) T.threads),
        length_each (λ t. field 2 (thread_value t)) 20 T.threads (λ t. omega (arith, thread_length t)),
      ) in
      let ready : length to_ready ≡ 15 + 20 * length T.threads + length T.ready =
      omega (arith, length-append to_threads (field 3 T.ready)) in
      let clock : length to_clock ≡ 18 + 20 * length T.threads + length T.ready + length T.clock =
      omega (arith, length-append to_ready (field 4 T.clock)) in
      record {
        head = head;
        threads = threads;
        ready = ready;
        clock = clock;
        messages = omega (
          arith,
          length-append to_clock (each (λ m. field 5 (message_value m)) T.messages),
          length_each (λ m. field 5 (message_value m)) 10 T.messages (λ m. omega (arith, message_length m)),
        );
        whole = omega (arith, dump_length T);
      }

-- a field of names, which are those of a table
pub named : {tag : ℕ} {q names b c : List ℕ} {n : ℕ} → names ≡ q → Puts (field tag names) b c n → Puts (field tag q) b c n
named {tag} e p = said p (ap (field tag) e)

-- ---- the length of a dump is a number that the code can tell

pub record Short (T : Tables) : Type 0 where
  pub threads : length T.threads < names
  pub ready : length T.ready < names
  pub clock : length T.clock < names
  pub messages : length T.messages < names + most_blocks
  pub held : length T.held ≤ devices

pub short : {m : List ℕ} → Dumpable m → Short (tables m)
short {m} D =
    let s = D.shaped in
    let low = names_left m s in
    record {
      threads = omega (arith, threads_limit m s);
      ready = omega (arith, ready_limit m s);
      clock = omega (arith, clock_limit m s);
      messages = omega (arith, messages_limit m s, blocks_limit m s);
      held = held_few D;
    }
