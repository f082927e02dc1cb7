-- `reading::count_names` meets its contract: a law of Cutting for each exit.
use Rattle.std.proofs.Common.{arith}
use Rattle.loading.proofs.Cutting.{seen, names_many, names_shut, names_open}
use Rattle.loading.proofs.reading.count_names.Goals as goal
use Rattle.loading.proofs.reading.count_names.Goals.{else-from-le-THREADS-via-then-from-le-THREADS+else-opens, else-from-le-THREADS-via-else-from-le-THREADS}

pub returns-then-opens : goal.returns-then-opens
returns-then-opens c = rw (c.from-then-opens.ensures)
    (names_open c.args.tag c.args.bytes.now _ _ c.in_ok-size.ensures.lookup.3.1 (omega (arith, c.if-from-le-THREADS.true, c.from.ensures))
    (seen _ _ c.args.bytes.now c.args.from c.opens.ensures c.if-opens.true))

pub returns-else-from-le-THREADS : goal.returns-else-from-le-THREADS
returns-else-from-le-THREADS c = elim c.else-from-le-THREADS.branch [
  | else-from-le-THREADS-via-then-from-le-THREADS+else-opens w ↦
      names_shut _ _ _ _ c.in_ok-size.ensures.lookup.3.1 (seen _ _ c.args.bytes.now c.args.from w.opens.ensures w.if-opens.false)
  | else-from-le-THREADS-via-else-from-le-THREADS w ↦
      names_many _ _ _ _ c.in_ok-size.ensures.lookup.3.1 (omega (arith, w.if-from-le-THREADS.false, c.from.ensures))
]
