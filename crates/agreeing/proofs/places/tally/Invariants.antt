-- `places::tally` meets its contract. The loop: the counts of the names passed.
use Rattle.std.proofs.Common.{◌≡◌, ◌++◌}
use Rattle.indexing.proofs.Tallying.{Tallied}
use Rattle.agreeing.proofs.places.tally.Given as goal

abbrev pub invariant-loop-k : goal.invariant-loop-k
invariant-loop-k l = Tallied l.c l.yielded × (l.yielded ++ l.k-iterator ≡ l.initial.k-iterator)
