-- `moving::without::threads` meets its contract. The loop: Leaving, of Sets.antt.
use Rattle.memory.specs.Memory.{rows_of}
use Rattle.moving.proofs.Sets.{Leaving}
use Rattle.moving.proofs.without.threads.Given as goal

abbrev pub invariant-loop-i : goal.invariant-loop-i
invariant-loop-i l = Leaving (rows_of l.initial.m) (rows_of l.m) l.k l.i
