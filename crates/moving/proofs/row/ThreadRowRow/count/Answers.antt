-- `moving::row::ThreadRowRow::count` meets its contract.
use Rattle.std.proofs.Common.{arith}
use Rattle.memory.proofs.Sizes.{threads_long}
use Rattle.moving.proofs.row.ThreadRowRow.count.Goals as goal

pub returns-clause-long : goal.returns-clause-long
returns-clause-long c = threads_long c.args.m.now

pub returns-clause-small : goal.returns-clause-small
returns-clause-small c = omega (arith, c.requires.low, c.requires.few)
