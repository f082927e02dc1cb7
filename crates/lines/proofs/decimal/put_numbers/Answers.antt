-- `decimal::put_numbers`: the numbers of a line, and its end.
use Rattle.std.proofs.Common.{arith}
use Rattle.lines.proofs.NumberLines.{row_first, row_next_behind, row_ends, row_none}
use Rattle.lines.proofs.decimal.put_numbers.Goals as goal

pub returns-in_default : goal.returns-in_default
returns-in_default c = row_none _ _ (omega arith) (omega arith)

pub loop-n-init : goal.loop-n-init
loop-n-init c = row_first c.requires (omega arith) c.put_decimal-at.ensures

pub loop-n-preserved : goal.loop-n-preserved
loop-n-preserved c = row_next_behind _ c.loop-n.invariant (omega arith) c.put_spaced-at.ensures

pub returns : goal.returns
returns c = row_ends c.put_decimal-at.ensures c.loop-n.invariant (omega arith)
