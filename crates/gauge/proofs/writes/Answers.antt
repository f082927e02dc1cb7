-- `writes`: the dump of a memory that stands fits.
use Rattle.std.proofs.Common.{arith}
use Rattle.loading.proofs.Exits.{writable}
use Rattle.gauge.proofs.writes.Goals as goal

pub write_dump-requires : goal.write_dump-requires
write_dump-requires c = let w = writable c.args.m.now c.requires.0 in (w.0, omega (arith, w.1, c.requires.1, c.loop.invariant.0))
