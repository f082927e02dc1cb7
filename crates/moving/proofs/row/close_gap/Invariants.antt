-- `moving::row::close_gap` meets its contract. The loop: what is moved up and the rest are the row without the entry that goes.
use Rattle.memory.specs.Memory.{rows_of}
use Rattle.moving.proofs.Loops.{Closing}
use Rattle.moving.proofs.Steps.{Only}
use Rattle.moving.proofs.row.close_gap.Given as goal

abbrev pub invariant-loop-i : goal.invariant-loop-i
invariant-loop-i g l =
    let w = g.R.Row.row in
    let r = rows_of l.initial.m in
    Only w r (λ x. Closing l.at (w.count r) (w.of r) x l.i) (rows_of l.m)
