-- `moving::row::ReadyRowRow::count` meets its contract.
use Rattle.std.proofs.Common.{arith}
use Rattle.memory.proofs.Sizes.{ready_long}
use Rattle.moving.proofs.row.ReadyRowRow.count.Goals as goal

pub returns-clause-long : goal.returns-clause-long
returns-clause-long c = ready_long c.args.m.now

pub returns-clause-small : goal.returns-clause-small
returns-clause-small c = omega (arith, c.requires.low, c.requires.few)
