-- A program between two rounds: its memory and buffers have their lengths, the run is right, and the number of the next line has room for
-- the rounds that are left.
use Prim.Native.Nat.{ℕ, ◌+◌, ◌*◌, ◌≤◌}
use mathlib.Core.Path.{◌≡◌, sym, ◌∙◌}
use mathlib.Core.Bool.{Bool}
use mathlib.Core.List.{List}
use native.Mathlib.Omega.{arith}
use lib.ListN.{length}
use Rattle.stream.specs.declared.Run.{Run}
use Rattle.stream.specs.Stream.{Right, Begins, Serves, Rounds}
use Rattle.stream.proofs.Placed.{begins_right, serves_right, rounds_right, rounds_line, rounds_long, placed}

pub record Going (m input out : List ℕ) (r : Run) (rounds : ℕ) : Type 0 where
  pub words : length m ≡ 656
  pub bytes : length input ≡ 131072
  pub lines : length out ≡ 65536
  pub right : Right m r (length input) (length out)
  pub room : r.line + rounds * 131072 ≤ 4611686018427387905

-- from a start
pub going_starts : {m input out : List ℕ} {r : Run} {rounds : ℕ} → Begins m r → length m ≡ 656 → length input ≡ 131072 →
    length out ≡ 65536 →
    rounds ≤ 35184372088832 → Going m input out r rounds
going_starts {m} {input} {out} {r} b w i o n =
    let e : r.line ≡ 1 = λ ι. (b.first ι).line in
    record { words = w; bytes = i; lines = o; right = begins_right (length input) (length out) b; room = omega (arith, e) }

module _ {m input out : List ℕ} {r : Run} {rounds : ℕ} (g : Going m input out r rounds) where
  -- what a round and the last turn ask
  pub going_asks : Right m r (length input) (length out) × (r.line + length input ≤ 9223372036854775808)
  going_asks = (g.right, omega (arith, g.bytes, g.room))

  -- a round
  module _ {m' input' out' : List ℕ} {v : Run} (s : Rounds m r input out m' input' out' v) where
    pub going_on : {left : ℕ} → length m' ≡ 656 → length out' ≡ 65536 → left + 1 ≡ rounds → Going m' input' out' v left
    going_on w o h =
        let long = rounds_long g.right s in
        record {
          words = w;
          bytes = long ∙ g.bytes;
          lines = o;
          right = placed (sym long) (g.lines ∙ sym o) (rounds_right g.right s);
          room = omega (arith, rounds_line g.right s, g.bytes, g.room, h);
        }

    -- its lines lie in the buffer
    pub round_within : length out' ≡ 65536 → v.filled ≤ length out'
    round_within o = omega (arith, (rounds_right g.right s).filled, g.lines, o)

  -- the last turn
  module _ {last : Bool} {m' out' : List ℕ} {v : Run} (s : Serves m r last input out out' m' v) where
    pub ends_right : Right m' v (length input) (length out)
    ends_right = serves_right g.right s

    pub end_within : length out' ≡ 65536 → v.filled ≤ length out'
    end_within o = omega (arith, ends_right.filled, g.lines, o)
