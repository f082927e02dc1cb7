-- `decimal::put_decimal`: the digits are put from the last to the first.
use Rattle.lines.proofs.Numerals.{Putting}
use Rattle.lines.proofs.decimal.put_decimal.Given as goal

abbrev pub invariant-loop-i : goal.invariant-loop-i
invariant-loop-i l = Putting l.n l.k l.i l.rest l.initial.out l.out
