-- `moving::threads::find_place` meets its contract. The loop: the place is one of those from `low` to `high`.
use Prim.Native.Nat.{◌-◌}
use Rattle.memory.specs.Memory.{rows_of}
use Rattle.moving.proofs.Halving.{Between}
use Rattle.moving.proofs.threads.find_place.Given as goal

abbrev pub invariant-loop-low : goal.invariant-loop-low
invariant-loop-low l = Between l.name (rows_of l.m).count (rows_of l.m).threads l.low l.high

abbrev pub decreases-loop-low : goal.decreases-loop-low
decreases-loop-low l = l.high - l.low
