-- `decode::word_at` meets its contract: `four_at`.
use Rattle.std.proofs.Common.{arith}
use Rattle.laws.proofs.Bytes.{four_at}
use Rattle.stepping.proofs.decode.word_at.Goals as goal

pub returns : goal.returns
returns c = omega (arith, c.from_be_bytes.ensures, four_at c.args.s.now c.args.at c.requires)
