-- `turn::turn` meets its contract. Whenever the loop's test is reached, the lines of the bytes used so far stand in the buffer, and what is
-- to be printed is these and then what the rest prints. The measure is how many bytes are left.
use Prim.Native.Nat.{◌-◌}
use lib.ListN.{length}
use Rattle.printing.proofs.Turning.{Going}
use Rattle.printing.proofs.turn.turn.Given as goal

abbrev pub invariant-loop-used : goal.invariant-loop-used
invariant-loop-used l =
    Going l.initial.m l.first l.input l.ended l.initial.out l.out (record { line = l.line; used = l.used; filled = l.filled }) l.m

abbrev pub decreases-loop-used : goal.decreases-loop-used
decreases-loop-used l = length l.input - l.used
