-- `moving::row::sift` meets its contract. The loop: Keeping, of Steps.antt, whatever the test is.
use Rattle.std.proofs.Common.{◌≡◌, ◌≤◌, Bool}
use Rattle.memory.specs.Memory.{rows_of}
use Rattle.moving.proofs.Loops.{Left}
use Rattle.moving.proofs.Steps.{Only, Keeping}
use Rattle.moving.proofs.row.sift.Given as goal

abbrev pub invariant-loop-i : goal.invariant-loop-i
invariant-loop-i g l =
    let w = g.R.Row.row in
    let r = rows_of l.initial.m in
    record {
      left : Only w r (λ x. Left (w.count r) (w.of r) x l.i) (rows_of l.m);
      behind : l.k ≤ l.i;
      keeps : (q : g.row.R-Entry.Denot → Bool) → ((x : g.row.R-Entry.Denot) (b : Bool) → goal.F-post g l.goes x b → b ≡ q x) →
          Keeping w q (w.count r) r (rows_of l.m) l.k l.i;
    }
