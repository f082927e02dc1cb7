-- `memory::memory::clear_all_held` meets its contract.
use Rattle.memory.proofs.Helds.{Emptied}
use Rattle.memory.proofs.memory.clear_all_held.Given as goal

abbrev pub invariant-loop-d : goal.invariant-loop-d
invariant-loop-d l = Emptied l.d l.initial.m l.m
