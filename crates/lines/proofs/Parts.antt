-- Parts of the tables' text, put one behind the other, with how far they reach at most.
use Prim.Native.Nat.{ℕ, ◌+◌, ◌*◌, ◌≤◌}
use mathlib.Core.Path.{◌≡◌, ap}
use mathlib.Core.List.{List, ◌∷◌, ◌++◌}
use native.Mathlib.Nat.{mul-le-mul_left}
use native.Mathlib.Omega.{arith}
use lib.ListN.{length, length-append}
use Rattle.rules.specs.Lists.{each}
use Rattle.rules.specs.Numbers.{small}
use Rattle.laws.specs.Words.{Limits}
use Rattle.rules.specs.Tables.{Tables}
use Rattle.store.specs.Store.{limits, tables, Shaped}
use Rattle.store.proofs.Lengths.{threads_limit, ready_limit, clock_limit, messages_limit}
use Rattle.buffer.specs.Puts.{Puts}
use Rattle.buffer.proofs.Putting.{rest, back, behind, room, stays_long, said}
use Rattle.dumping.proofs.Puttings.{each_few}
use Rattle.lines.specs.Text.{numbers_line, head_line, thread_line, message_line}
use Rattle.lines.proofs.NumberLines.{line_few}
use Rattle.lines.proofs.Entries.{thread_few, message_few}

-- These bytes stand at the front, and reach no farther than `most`, for which there was room.
pub record Filled (bytes before after : List ℕ) (at most : ℕ) : Type 0 where
  pub puts : Puts bytes before after at
  pub low : at ≤ most
  pub room : most ≤ length before
  pub long : length after ≡ length before

pub filled_first : {c before after : List ℕ} {k : ℕ} (m : ℕ) → length c ≤ m → m ≤ length before
    → Puts c before after k → Filled c before after k m
filled_first m h r p = record { puts = p; low = omega (arith, p.counts); room = r; long = stays_long p (omega arith) }

pub filled_more : {a c before mid ys : List ℕ} {at k m : ℕ} (j : ℕ) → Filled a before mid at m → length c ≤ j → m + j ≤ length before
    → Puts c (rest at mid) ys k → Filled (a ++ c) before (back at mid ys) (at + k) (m + j)
filled_more {a} {c} j f h r q =
    let p = behind f.puts q in
    record {
      puts = p;
      low = omega (arith, f.low, q.counts);
      room = r;
      long = stays_long p (omega (arith, length-append a c, f.puts.counts, f.low));
    }

-- behind the place reached there is the room that was left
pub filled_room : {a before after : List ℕ} {at m : ℕ} (j : ℕ) → Filled a before after at m → m + j ≤ length before
    → j ≤ length (rest at after)
filled_room j f h = omega (arith, room f.puts, f.low)

-- ---- how long each part is at most

pub head_few : (T : Tables) → length (head_line T) ≤ 148
head_few T = line_few _

pub rows_few : {A : Type 0} (f : A → List ℕ) (w n : ℕ) → ((x : A) → length (f x) ≤ w) → (xs : List A) → length xs ≤ n
    → length (each f xs) ≤ w * n
rows_few f w n h xs k = omega (arith, each_few f w h xs, mul-le-mul_left w k)

pub names_few : (tag : ℕ) (names : List ℕ) → length names ≤ 20 → length (numbers_line (tag ∷ names)) ≤ 442
names_few tag names h = omega (arith, line_few (tag ∷ names))

-- ---- how many entries there are, with the document's limits

pub record Few (T : Tables) : Type 0 where
  pub threads : length T.threads ≤ 20
  pub ready : length T.ready ≤ 20
  pub clock : length T.clock ≤ 20
  pub messages : length T.messages ≤ 40

pub few : (m : List ℕ) → Shaped m → limits m ≡ small → Few (tables m)
few m s e =
    let room : (limits m).threads ≡ 20 = ap (λ (L : Limits). L.threads) e in
    let blocks : (limits m).blocks ≡ 20 = ap (λ (L : Limits). L.blocks) e in
    record {
      threads = omega (arith, threads_limit m s);
      ready = omega (arith, ready_limit m s);
      clock = omega (arith, clock_limit m s);
      messages = omega (arith, messages_limit m s);
    }

-- ---- the tables' text up to each of its parts, in a buffer that has room for all of it

-- a line of names, which are those of a queue
pub named : (tag : ℕ) {q names b c : List ℕ} {n : ℕ} → names ≡ q → Puts (numbers_line (tag ∷ names)) b c n → Puts (numbers_line (tag ∷ q)) b c n
named tag e p = said p (ap (λ (l : List ℕ). numbers_line (tag ∷ l)) e)

module _ {T : Tables} (L : Few T) {b m₁ : List ℕ} {k₁ : ℕ} (r : 13404 ≤ length b) (p₁ : Puts (head_line T) b m₁ k₁) where
  pub to_head : Filled (head_line T) b m₁ k₁ 148
  to_head = filled_first 148 (head_few T) (omega (arith, r)) p₁

  module _ {y₂ : List ℕ} {k₂ : ℕ} (p₂ : Puts (each thread_line T.threads) (rest k₁ m₁) y₂ k₂) where
    abbrev b₂ : List ℕ
    b₂ = head_line T ++ each thread_line T.threads

    abbrev m₂ : List ℕ
    m₂ = back k₁ m₁ y₂

    pub to_threads : Filled b₂ b m₂ (k₁ + k₂) 5208
    to_threads = filled_more 5060 to_head (rows_few thread_line 253 20 thread_few _ L.threads) (omega (arith, r)) p₂

    module _ {y₃ : List ℕ} {k₃ : ℕ} (p₃ : Puts (numbers_line (3 ∷ T.ready)) (rest (k₁ + k₂) m₂) y₃ k₃) where
      abbrev b₃ : List ℕ
      b₃ = b₂ ++ numbers_line (3 ∷ T.ready)

      abbrev m₃ : List ℕ
      m₃ = back (k₁ + k₂) m₂ y₃

      pub to_ready : Filled b₃ b m₃ (k₁ + k₂ + k₃) 5650
      to_ready = filled_more 442 to_threads (names_few 3 _ L.ready) (omega (arith, r)) p₃

      module _ {y₄ : List ℕ} {k₄ : ℕ} (p₄ : Puts (numbers_line (4 ∷ T.clock)) (rest (k₁ + k₂ + k₃) m₃) y₄ k₄) where
        abbrev b₄ : List ℕ
        b₄ = b₃ ++ numbers_line (4 ∷ T.clock)

        abbrev m₄ : List ℕ
        m₄ = back (k₁ + k₂ + k₃) m₃ y₄

        pub to_clock : Filled b₄ b m₄ (k₁ + k₂ + k₃ + k₄) 6092
        to_clock = filled_more 442 to_ready (names_few 4 _ L.clock) (omega (arith, r)) p₄

        pub to_messages : {y₅ : List ℕ} {k₅ : ℕ} → Puts (each message_line T.messages) (rest (k₁ + k₂ + k₃ + k₄) m₄) y₅ k₅
            → Filled (b₄ ++ each message_line T.messages) b (back (k₁ + k₂ + k₃ + k₄) m₄ y₅) (k₁ + k₂ + k₃ + k₄ + k₅) 10332
        to_messages p₅ = filled_more 4240 to_clock (rows_few message_line 106 40 message_few _ L.messages) (omega (arith, r)) p₅
