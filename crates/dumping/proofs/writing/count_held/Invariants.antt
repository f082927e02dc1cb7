-- `writing::count_held` meets its contract. The loop: the held words of the devices passed are counted.
use Rattle.std.proofs.Common.{◌≡◌, length}
use Rattle.store.specs.Store.{tables}
use Rattle.dumping.proofs.Walks.{below}
use Rattle.dumping.proofs.writing.count_held.Given as goal

abbrev pub invariant-loop-d : goal.invariant-loop-d
invariant-loop-d l = l.n ≡ length (below l.d (tables l.m).held)
