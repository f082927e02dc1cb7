-- A name's word, and a record's words after its stores.
use Rattle.std.proofs.Common.{◌≡◌, ℕ, ◌<◌, List, [], ◌∷◌, length, arith}
use Rattle.std.proofs.Math.ListN.{set}
use Rattle.rules.specs.Tables.{in_state}
use borrow.Author.Tests.{lt-ltb}
use Rattle.laws.specs.Words.{State, Answer}
use Rattle.words.specs.Saying.{byte, parent_in, manager_in, state_in, answer_in, thread_in}

pub byte_same : (n : ℕ) → n < 256 → byte n ≡ n
byte_same n low = rw (lt-ltb n 256 low)

pub turned_said : (w : List ℕ) (x : State) (y : Answer) (s d k n a : ℕ) → length w ≡ 11 → state_in s d ≡ x → answer_in k n a ≡ y →
    thread_in (set (set (set (set (set w 2 s) 3 d) 8 k) 9 n) 10 a) ≡ in_state x y (thread_in w)
unfolding thread_in
turned_said [] x y s d k n a l e f = absurd (omega arith)
turned_said (w₀ ∷ []) x y s d k n a l e f = absurd (omega arith)
turned_said (w₀ ∷ w₁ ∷ []) x y s d k n a l e f = absurd (omega arith)
turned_said (w₀ ∷ w₁ ∷ w₂ ∷ []) x y s d k n a l e f = absurd (omega arith)
turned_said (w₀ ∷ w₁ ∷ w₂ ∷ w₃ ∷ []) x y s d k n a l e f = absurd (omega arith)
turned_said (w₀ ∷ w₁ ∷ w₂ ∷ w₃ ∷ w₄ ∷ []) x y s d k n a l e f = absurd (omega arith)
turned_said (w₀ ∷ w₁ ∷ w₂ ∷ w₃ ∷ w₄ ∷ w₅ ∷ []) x y s d k n a l e f = absurd (omega arith)
turned_said (w₀ ∷ w₁ ∷ w₂ ∷ w₃ ∷ w₄ ∷ w₅ ∷ w₆ ∷ []) x y s d k n a l e f = absurd (omega arith)
turned_said (w₀ ∷ w₁ ∷ w₂ ∷ w₃ ∷ w₄ ∷ w₅ ∷ w₆ ∷ w₇ ∷ []) x y s d k n a l e f = absurd (omega arith)
turned_said (w₀ ∷ w₁ ∷ w₂ ∷ w₃ ∷ w₄ ∷ w₅ ∷ w₆ ∷ w₇ ∷ w₈ ∷ []) x y s d k n a l e f = absurd (omega arith)
turned_said (w₀ ∷ w₁ ∷ w₂ ∷ w₃ ∷ w₄ ∷ w₅ ∷ w₆ ∷ w₇ ∷ w₈ ∷ w₉ ∷ []) x y s d k n a l e f = absurd (omega arith)
turned_said (w₀ ∷ w₁ ∷ w₂ ∷ w₃ ∷ w₄ ∷ w₅ ∷ w₆ ∷ w₇ ∷ w₈ ∷ w₉ ∷ u ∷ w) x y s d k n a l e f = λ i. record {
  name = byte w₀;
  parent = parent_in w₁;
  state = e i;
  managers = record { program = manager_in w₄; tlb = manager_in w₅; sysbp = manager_in w₆ };
  ticks = w₇;
  answer = f i;
}
