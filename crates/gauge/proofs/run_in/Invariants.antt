-- `run_in` meets its contract: each step leaves a memory that stands, with the limits that it had. An event that is accepted passed a
-- byte at least, so the count does not wrap; what is left of the bytes is the measure.
use Prim.Native.Nat.{◌≤◌, ◌-◌}
use mathlib.Core.Path.{◌≡◌}
use lib.ListN.{length}
use Rattle.store.specs.Store.{limits}
use Rattle.handling.specs.Standing.{AtRest}
use Rattle.gauge.proofs.run_in.Given as goal

abbrev pub invariant-loop-at : goal.invariant-loop-at
invariant-loop-at l = (length l.m ≡ length l.initial.m) × (l.at ≤ length l.s) × (l.accepted ≤ l.at) × AtRest l.m × (limits l.m ≡ limits l.initial.m)

abbrev pub decreases-loop-at : goal.decreases-loop-at
decreases-loop-at l = length l.s - l.at
