-- `writing::write_names` meets its contract. The loop: the names passed stand behind the room for the head of the field.
use Rattle.std.proofs.Common.{◌≡◌, ◌++◌, take}
use Rattle.buffer.specs.Puts.{Puts}
use Rattle.dumping.proofs.writing.write_names.Given as goal

abbrev pub invariant-loop-name : goal.invariant-loop-name
invariant-loop-name l =
    (l.yielded ++ l.name-iterator ≡ l.fn.names)
    × Puts (take 3 l.initial.out ++ l.yielded) l.initial.out l.out l.at
