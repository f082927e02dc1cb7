-- `parents::upward` meets its contract. The loop: there is an entry for each thread passed.
use Rattle.memory.specs.Memory.{rows_of}
use Rattle.ranging.proofs.Raising.{Raised}
use Rattle.ranging.proofs.parents.upward.Given as goal

abbrev pub invariant-loop-i : goal.invariant-loop-i
invariant-loop-i l = Raised (rows_of l.m).count (rows_of l.m).threads l.up l.i
