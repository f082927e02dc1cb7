-- `moving::members::grow` meets its contract. The loop: Growing, of Sets.antt.
use Rattle.memory.specs.Memory.{rows_of}
use Rattle.memory.specs.Rows.{members}
use Rattle.moving.proofs.Sets.{Growing}
use Rattle.moving.specs.Marks.{Marks}
use Rattle.moving.proofs.members.grow.Given as goal

abbrev pub invariant-loop-i : goal.invariant-loop-i
invariant-loop-i l =
    record { grows : Growing (rows_of l.initial.m) (rows_of l.m) l.i; marked : Marks (members (rows_of l.m)) l.marks }
