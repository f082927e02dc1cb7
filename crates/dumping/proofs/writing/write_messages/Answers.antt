-- `writing::write_messages` meets its contract. The loop: the fields of the messages passed stand at the front.
use Rattle.std.proofs.Common.{arith, ◌∙◌}
use Rattle.rules.specs.Dump.{field, message_value}
use Rattle.laws.proofs.DumpLength.{message_length}
use Rattle.store.specs.Store.{tables}
use Rattle.dumping.proofs.Puttings.{write_starts, write_fits, write_next, passes, some_left, one_field}
use Rattle.dumping.proofs.writing.write_messages.Goals as goal

pub loop-x-init : goal.loop-x-init
unfolding tables
loop-x-init c = (
  c.into_iter-x-iterator.ensures.into_iter_gives ∙ c.messages-x-items.ensures,
  write_starts (λ x. omega (arith, message_length x)) c.requires.1,
)

pub write_message-at-requires : goal.write_message-at-requires
write_message-at-requires c =
    let l = c.loop-x in
    omega (arith, write_fits l.invariant.1 _ (some_left _ l.invariant.0 c.in-Some.ensures.steps))

pub loop-x-preserved : goal.loop-x-preserved
loop-x-preserved c =
    let l = c.loop-x in
    let s = c.in-Some.ensures.steps in (
      passes _ l.invariant.0 s,
      write_next l.invariant.1 _ (some_left _ l.invariant.0 s) (one_field (λ x. field 5 (message_value x)) (rw c.message.ensures at c.write_message-at.ensures)),
    )
