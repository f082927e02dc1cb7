-- `writing::write_held` meets its contract. The loop: the fields of the held words of the devices passed stand at the front.
use Rattle.rules.specs.Dump.{field, held_value}
use Rattle.store.specs.Store.{tables}
use Rattle.dumping.proofs.Walks.{below}
use Rattle.dumping.proofs.Puttings.{Written}
use Rattle.dumping.proofs.writing.write_held.Given as goal

abbrev pub invariant-loop-d : goal.invariant-loop-d
invariant-loop-d l = Written (λ h. field 6 (held_value h)) 8 (tables l.m).held (below l.d (tables l.m).held) l.initial.out l.out l.at
