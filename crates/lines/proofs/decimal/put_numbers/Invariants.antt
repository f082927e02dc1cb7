-- `decimal::put_numbers`: the first number and those behind it so far stand at the front.
use Rattle.std.proofs.Common.{◌+◌}
use Rattle.lines.proofs.NumberLines.{Row}
use Rattle.lines.proofs.decimal.put_numbers.Given as goal

abbrev pub invariant-loop-n : goal.invariant-loop-n
invariant-loop-n l = Row l.row l.initial.out l.out l.at (l.n-index + 1)
