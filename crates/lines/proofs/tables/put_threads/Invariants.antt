-- `tables::put_threads` meets its contract. The loop: the lines of the threads passed stand at the front.
use Rattle.std.proofs.Common.{◌≡◌, ◌++◌}
use Rattle.store.specs.Store.{tables}
use Rattle.dumping.proofs.Puttings.{Written}
use Rattle.lines.specs.Text.{thread_line}
use Rattle.lines.proofs.tables.put_threads.Given as goal

abbrev pub invariant-loop-t : goal.invariant-loop-t
invariant-loop-t l =
    (l.yielded ++ l.t-iterator ≡ (tables l.m).threads)
    × Written thread_line 253 (tables l.m).threads l.yielded l.initial.out l.out l.at
