-- `parents::all_lead` meets its contract. The loop: each place passed leads above all.
use Rattle.std.proofs.Common.{length}
use Rattle.ranging.proofs.Leading.{Led}
use Rattle.ranging.proofs.parents.all_lead.Given as goal

abbrev pub invariant-loop-i : goal.invariant-loop-i
invariant-loop-i l = Led l.up (length l.up) l.i
