-- `passes`: the memory keeps its length, and no more passed than were tried.
use Rattle.std.proofs.Common.{◌≡◌, ◌≤◌, length}
use Rattle.gauge.proofs.passes.Given as goal

abbrev pub invariant-loop-i : goal.invariant-loop-i
invariant-loop-i l = (length l.m ≡ length l.initial.m) × (l.passed ≤ l.i)
