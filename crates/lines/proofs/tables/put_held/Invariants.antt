-- `tables::put_held` meets its contract. The loop: the lines of the held words of the devices passed stand at the front.
use Rattle.store.specs.Store.{tables}
use Rattle.dumping.proofs.Walks.{below}
use Rattle.dumping.proofs.Puttings.{Written}
use Rattle.lines.specs.Text.{held_line}
use Rattle.lines.proofs.tables.put_held.Given as goal

abbrev pub invariant-loop-d : goal.invariant-loop-d
invariant-loop-d l = Written held_line 64 (tables l.m).held (below l.d (tables l.m).held) l.initial.out l.out l.at
