-- `decode::pending_at` meets its contract: `eight_at`.
use Rattle.std.proofs.Common.{arith}
use Rattle.stepping.proofs.Fields.{eight_at}
use Rattle.stepping.proofs.decode.pending_at.Goals as goal

pub returns : goal.returns
returns c = omega (arith, c.from_be_bytes.ensures, eight_at c.args.s.now c.args.at c.requires)
