-- `moving::without::receivers` meets its contract. The loop: Freeing, of Sets.antt.
use Rattle.memory.specs.Memory.{rows_of}
use Rattle.moving.proofs.Sets.{Freeing}
use Rattle.moving.proofs.without.receivers.Given as goal

abbrev pub invariant-loop-i : goal.invariant-loop-i
invariant-loop-i l = Freeing (rows_of l.initial.m) (rows_of l.m) l.i
