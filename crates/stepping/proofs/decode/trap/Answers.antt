-- `decode::trap` meets its contract: the kinds are below 3.
use Rattle.std.proofs.Common.{arith}
use Rattle.stepping.proofs.Fields.{a_kind, no_kind}
use Rattle.stepping.proofs.decode.trap.Goals as goal

pub returns-in-0-to-2 : goal.returns-in-0-to-2
returns-in-0-to-2 c = rw (a_kind c.args.kind c.args.cause (omega arith), c.from.ensures)

pub returns-in_default : goal.returns-in_default
returns-in_default c = rw (no_kind c.args.kind c.args.cause (omega arith))
