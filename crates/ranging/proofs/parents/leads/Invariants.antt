-- `parents::leads` meets its contract. The loop: the steps so far led to a place, neither before the start nor above all. n + 1 steps are
-- tried.
use Rattle.std.proofs.Common.{length}
use Rattle.ranging.proofs.Leading.{Gone}
use Rattle.ranging.proofs.parents.leads.Given as goal

abbrev pub invariant-loop-k : goal.invariant-loop-k
invariant-loop-k l = Gone l.up (length l.up) l.i l.at l._k
