-- `tables::put_held` meets its contract. The loop: the lines of the held words of the devices passed stand at the front.
use Rattle.std.proofs.Common.{arith, ◌+◌, ap, length}
use Rattle.rules.specs.Lists.{each}
use Rattle.buffer.proofs.Putting.{said}
use Rattle.dumping.proofs.Walks.{none_passed, one_passed, last_passed, few_passed, held_few as few_held}
use Rattle.dumping.proofs.Puttings.{write_starts, write_fits, write_next}
use Rattle.lines.specs.Text.{held_line}
use Rattle.lines.proofs.Entries.{held_few}
use Rattle.lines.proofs.tables.put_held.Goals as goal

pub loop-d-init : goal.loop-d-init
loop-d-init c = rw (none_passed c.requires.0) (write_starts held_few (omega (arith, few_held c.requires.0, c.requires.1)))

pub put_word-at-requires : goal.put_word-at-requires
put_word-at-requires c = (c.requires.0.shaped, c.loop-d-test.true, write_fits c.loop-d.invariant _ (omega (arith, ap length (one_passed c.requires.0 c.loop-d.d), few_passed c.requires.0 (c.loop-d.d + 1))))

pub loop-d-preserved : goal.loop-d-preserved
loop-d-preserved c = rw (one_passed c.requires.0 c.loop-d.d) (write_next c.loop-d.invariant _ (omega (arith, ap length (one_passed c.requires.0 c.loop-d.d), few_passed c.requires.0 (c.loop-d.d + 1))) c.put_word-at.ensures)

pub returns : goal.returns
returns c = said c.loop-d.invariant.so (ap (each held_line) (last_passed c.requires.0 (omega (arith, c.loop-d-test.false, c.loop-d.auto.d-end))))
