-- `moving::row::open_gap` meets its contract. The loop: each entry from i on stands one further, and those before are as they were.
use Rattle.std.proofs.Common.{◌≤◌}
use Rattle.memory.specs.Memory.{rows_of}
use Rattle.moving.proofs.Loops.{Shifted}
use Rattle.moving.proofs.Steps.{Only}
use Rattle.moving.proofs.row.open_gap.Given as goal

abbrev pub invariant-loop-i : goal.invariant-loop-i
invariant-loop-i g l =
    let w = g.R.Row.row in
    let r = rows_of l.initial.m in
    record { moved : Only w r (λ x. Shifted (w.count r) (w.of r) x l.i) (rows_of l.m); above : l.at ≤ l.i }
