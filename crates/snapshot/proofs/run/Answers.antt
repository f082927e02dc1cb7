-- `run`: at the end the tables can be dumped.
use Rattle.std.proofs.Common.{arith}
use Rattle.loading.proofs.Exits.{writable}
use Rattle.lending.proofs.Standing.{passes}
use Rattle.stream.proofs.Going.{ends_right}
use Rattle.snapshot.proofs.run.Goals as goal

pub write_dump-n-requires : goal.write_dump-n-requires
write_dump-n-requires c =
    let s = (ends_right c.loop.invariant c.serve.ensures).standing in
    let w = writable _ (passes _ s.at_rest s.small) in
    (w.0, omega (arith, w.1))
