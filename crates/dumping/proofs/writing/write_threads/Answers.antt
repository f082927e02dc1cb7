-- `writing::write_threads` meets its contract. The loop: the fields of the threads passed stand at the front.
use Rattle.std.proofs.Common.{arith, ◌∙◌}
use Rattle.rules.specs.Dump.{field, thread_value}
use Rattle.laws.proofs.DumpLength.{thread_length}
use Rattle.store.specs.Store.{tables}
use Rattle.dumping.proofs.Puttings.{write_starts, write_fits, write_next, passes, some_left, one_field}
use Rattle.dumping.proofs.writing.write_threads.Goals as goal

pub loop-t-init : goal.loop-t-init
unfolding tables
loop-t-init c = (
  c.into_iter-t-iterator.ensures.into_iter_gives ∙ c.threads-t-items.ensures,
  write_starts (λ t. omega (arith, thread_length t)) c.requires.1,
)

pub write_thread-at-requires : goal.write_thread-at-requires
write_thread-at-requires c =
    let l = c.loop-t in
    omega (arith, write_fits l.invariant.1 _ (some_left _ l.invariant.0 c.in-Some.ensures.steps))

pub loop-t-preserved : goal.loop-t-preserved
loop-t-preserved c =
    let l = c.loop-t in
    let s = c.in-Some.ensures.steps in (
      passes _ l.invariant.0 s,
      write_next l.invariant.1 _ (some_left _ l.invariant.0 s) (one_field (λ t. field 2 (thread_value t)) c.write_thread-at.ensures),
    )
