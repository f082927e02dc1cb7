-- `writing::write_threads` meets its contract. The loop: the fields of the threads passed stand at the front.
use Rattle.std.proofs.Common.{◌≡◌, ◌++◌}
use Rattle.rules.specs.Dump.{field, thread_value}
use Rattle.store.specs.Store.{tables}
use Rattle.dumping.proofs.Puttings.{Written}
use Rattle.dumping.proofs.writing.write_threads.Given as goal

abbrev pub invariant-loop-t : goal.invariant-loop-t
invariant-loop-t l =
    (l.yielded ++ l.t-iterator ≡ (tables l.m).threads)
    × Written (λ t. field 2 (thread_value t)) 20 (tables l.m).threads l.yielded l.initial.out l.out l.at
