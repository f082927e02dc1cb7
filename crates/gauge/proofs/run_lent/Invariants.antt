-- `run_lent` is safe and ends, as `run_in`: a step on a lent memory asks nothing of it.
use Prim.Native.Nat.{◌≤◌, ◌-◌}
use mathlib.Core.Path.{◌≡◌}
use lib.ListN.{length}
use Rattle.gauge.proofs.run_lent.Given as goal

abbrev pub invariant-loop-at : goal.invariant-loop-at
invariant-loop-at l = (length l.m ≡ length l.initial.m) × (l.at ≤ length l.s) × (l.accepted ≤ l.at)

abbrev pub decreases-loop-at : goal.decreases-loop-at
decreases-loop-at l = length l.s - l.at
