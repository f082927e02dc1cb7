-- `writes`: the buffer keeps its length, and no more were written than were tried.
use Rattle.std.proofs.Common.{◌≡◌, ◌≤◌, length}
use Rattle.gauge.proofs.writes.Given as goal

abbrev pub invariant-loop : goal.invariant-loop
invariant-loop l = (length l.out ≡ length l.initial.out) × (l.written ≤ l.counter)
