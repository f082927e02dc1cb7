-- `tables::put_messages` meets its contract. The loop: the lines of the messages passed stand at the front.
use Rattle.std.proofs.Common.{◌≡◌, ◌++◌}
use Rattle.store.specs.Store.{tables}
use Rattle.dumping.proofs.Puttings.{Written}
use Rattle.lines.specs.Text.{message_line}
use Rattle.lines.proofs.tables.put_messages.Given as goal

abbrev pub invariant-loop-x : goal.invariant-loop-x
invariant-loop-x l =
    (l.yielded ++ l.x-iterator ≡ (tables l.m).messages)
    × Written message_line 106 (tables l.m).messages l.yielded l.initial.out l.out l.at
