-- `decimal::put_decimal`: one digit, or the digits from the last to the first.
use Rattle.std.proofs.Common.{sym, arith}
use Rattle.lines.proofs.Numerals.{digits_from, putting_first, putting_next, putting_all, puts_digit}
use Rattle.lines.proofs.decimal.put_decimal.Goals as goal

pub returns-then-n-lt10 : goal.returns-then-n-lt10
returns-then-n-lt10 c = puts_digit _ _ c.if-n-lt10.true (omega arith)

pub loop-i-init : goal.loop-i-init
loop-i-init c = let i = c.ilog10.ensures in putting_first _ _ _ (sym (digits_from 20 _ _ i.bound i.power_le i.next_power_gt))

pub loop-i-preserved : goal.loop-i-preserved
loop-i-preserved c = putting_next _ _ _ _ _ _ (omega arith) (omega arith) c.loop-i.invariant

pub returns : goal.returns
returns c = let i = c.ilog10.ensures in
    putting_all _ _ _ _ _ _ (omega arith) (sym (digits_from 20 _ _ i.bound i.power_le i.next_power_gt)) c.loop-i.invariant
