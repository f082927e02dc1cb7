-- `run`: between two rounds all is as `Going` says.
use Rattle.std.proofs.Common.{◌-◌}
use Rattle.stream.proofs.Going.{Going}
use Rattle.snapshot.proofs.run.Given as goal

abbrev pub invariant-loop : goal.invariant-loop
invariant-loop l = Going l.m l.input l.out l.run (35184372088832 - l.counter)
