-- `tables::put_messages` meets its contract. The loop: the lines of the messages passed stand at the front.
use Rattle.std.proofs.Common.{arith, ◌∙◌}
use Rattle.store.specs.Store.{tables}
use Rattle.dumping.proofs.Puttings.{write_starts, write_fits, write_next, passes, some_left, one_field}
use Rattle.lines.specs.Text.{message_line}
use Rattle.lines.proofs.Entries.{message_few}
use Rattle.lines.proofs.tables.put_messages.Goals as goal

pub loop-x-init : goal.loop-x-init
unfolding tables
loop-x-init c = (
  c.into_iter-x-iterator.ensures.into_iter_gives ∙ c.messages-x-items.ensures,
  write_starts message_few (omega (arith, c.requires.1, c.requires.2)),
)

pub put_message-at-requires : goal.put_message-at-requires
put_message-at-requires c =
    let l = c.loop-x in
    omega (arith, write_fits l.invariant.1 _ (some_left _ l.invariant.0 c.in-Some.ensures.steps))

pub loop-x-preserved : goal.loop-x-preserved
loop-x-preserved c =
    let l = c.loop-x in
    let s = c.in-Some.ensures.steps in (
      passes _ l.invariant.0 s,
      write_next l.invariant.1 _ (some_left _ l.invariant.0 s) (one_field message_line (rw c.message.ensures at c.put_message-at.ensures)),
    )
