-- `writing::write_messages` meets its contract. The loop: the fields of the messages passed stand at the front.
use Rattle.std.proofs.Common.{◌≡◌, ◌++◌}
use Rattle.rules.specs.Dump.{field, message_value}
use Rattle.store.specs.Store.{tables}
use Rattle.dumping.proofs.Puttings.{Written}
use Rattle.dumping.proofs.writing.write_messages.Given as goal

abbrev pub invariant-loop-x : goal.invariant-loop-x
invariant-loop-x l =
    (l.yielded ++ l.x-iterator ≡ (tables l.m).messages)
    × Written (λ x. field 5 (message_value x)) 10 (tables l.m).messages l.yielded l.initial.out l.out l.at
