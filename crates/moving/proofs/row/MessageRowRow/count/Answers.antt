-- `moving::row::MessageRowRow::count` meets its contract.
use Rattle.std.proofs.Common.{arith}
use Rattle.memory.proofs.Sizes.{messages_long}
use Rattle.moving.proofs.row.MessageRowRow.count.Goals as goal

pub returns-clause-long : goal.returns-clause-long
returns-clause-long c = messages_long c.args.m.now

pub returns-clause-small : goal.returns-clause-small
returns-clause-small c = omega (arith, c.requires.low, c.requires.few)
