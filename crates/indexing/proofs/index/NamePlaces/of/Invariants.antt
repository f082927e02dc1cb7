-- `NamePlaces::of` meets its contract. The loop: the threads from i on have their places.
use Rattle.memory.specs.Memory.{rows_of}
use Rattle.indexing.proofs.Indexing.{Filled}
use Rattle.indexing.proofs.index.NamePlaces.of.Given as goal

abbrev pub invariant-loop-i : goal.invariant-loop-i
invariant-loop-i l = Filled (rows_of l.m).count (rows_of l.m).threads l.at l.i
