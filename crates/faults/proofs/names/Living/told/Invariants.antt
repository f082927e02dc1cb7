-- `told` meets its contract: the names of the fields so far are marked.
use Rattle.faults.proofs.Naming.{Marked}
use Rattle.faults.proofs.names.Living.told.Given as goal

abbrev pub invariant-loop-f : goal.invariant-loop-f
invariant-loop-f l = Marked l.bytes l.marks l.f-iterator
