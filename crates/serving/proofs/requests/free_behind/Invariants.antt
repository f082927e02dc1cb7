-- `requests::free_behind` meets its contract. The loop: with the name that the walk has come to, the threads that are left give what all
-- of them give, and have no lower name.
use Rattle.serving.proofs.Naming.{Walks}
use Rattle.serving.proofs.requests.free_behind.Given as goal

abbrev pub invariant-loop-i : goal.invariant-loop-i
invariant-loop-i l = Walks l.m l.last l.name l.i
