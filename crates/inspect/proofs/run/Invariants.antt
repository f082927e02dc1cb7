-- `run`: the window lies in the buffer, whose length stays.
use Rattle.std.proofs.Common.{◌≡◌, ◌≤◌, length}
use Rattle.inspect.proofs.run.Given as goal

abbrev pub invariant-loop : goal.invariant-loop
invariant-loop l = (length l.input ≡ 1048576) × (l.w.at ≤ l.w.held) × (l.w.held ≤ length l.input)
