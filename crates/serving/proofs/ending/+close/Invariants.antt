-- The measure of `close` is the number of threads that are not in the set.
use Rattle.laws.proofs.Closure.{outside}
use Rattle.store.specs.Store.{tables, found}
use Rattle.serving.proofs.ending.+close.Given as goal

abbrev pub decreases-close : goal.decreases-close
decreases-close l = outside (tables l.m.now).threads (found l.m.now)
