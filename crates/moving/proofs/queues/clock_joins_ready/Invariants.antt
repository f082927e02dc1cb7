-- `moving::queues::clock_joins_ready` meets its contract. The loop: the ready queue and the waiters that are left are the ready queue and
-- all waiters.
use Rattle.memory.specs.Memory.{rows_of}
use Rattle.moving.proofs.Steps.{Joins}
use Rattle.moving.proofs.queues.clock_joins_ready.Given as goal

abbrev pub invariant-loop-i : goal.invariant-loop-i
invariant-loop-i l = Joins (rows_of l.initial.m) (rows_of l.m) l.i
