-- `run`: a dump that was read can be written as lines.
use Rattle.std.proofs.Common.{arith}
use Rattle.inspect.proofs.Read.{read_dumpable}
use Rattle.inspect.proofs.run.Goals as goal

pub put_tables-n-requires : goal.put_tables-n-requires
put_tables-n-requires c =
    let d = read_dumpable c.load_in-v.ensures c.if-v-ne0.false in
    (d.0, d.1, omega (arith, c.put_numbers-k.auto.out, c.output_buffer-out.ensures))
