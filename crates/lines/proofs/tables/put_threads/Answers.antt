-- `tables::put_threads` meets its contract. The loop: the lines of the threads passed stand at the front.
use Rattle.std.proofs.Common.{arith, ◌∙◌}
use Rattle.store.specs.Store.{tables}
use Rattle.dumping.proofs.Puttings.{write_starts, write_fits, write_next, passes, some_left, one_field}
use Rattle.lines.specs.Text.{thread_line}
use Rattle.lines.proofs.Entries.{thread_few}
use Rattle.lines.proofs.tables.put_threads.Goals as goal

pub loop-t-init : goal.loop-t-init
unfolding tables
loop-t-init c = (
  c.into_iter-t-iterator.ensures.into_iter_gives ∙ c.threads-t-items.ensures,
  write_starts thread_few (omega (arith, c.requires.1, c.requires.2)),
)

pub put_thread-at-requires : goal.put_thread-at-requires
put_thread-at-requires c =
    let l = c.loop-t in
    omega (arith, write_fits l.invariant.1 _ (some_left _ l.invariant.0 c.in-Some.ensures.steps))

pub loop-t-preserved : goal.loop-t-preserved
loop-t-preserved c =
    let l = c.loop-t in
    let s = c.in-Some.ensures.steps in (
      passes _ l.invariant.0 s,
      write_next l.invariant.1 _ (some_left _ l.invariant.0 s) (one_field thread_line (rw c.thread.ensures at c.put_thread-at.ensures)),
    )
