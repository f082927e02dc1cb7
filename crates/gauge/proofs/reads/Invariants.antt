-- `reads`: the memory keeps its length, and no more were read than were tried.
use Rattle.std.proofs.Common.{◌≡◌, ◌≤◌, length}
use Rattle.gauge.proofs.reads.Given as goal

abbrev pub invariant-loop : goal.invariant-loop
invariant-loop l = (length l.m ≡ length l.initial.m) × (l.good ≤ l.counter)
