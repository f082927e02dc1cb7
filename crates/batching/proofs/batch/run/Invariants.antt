-- `batch::run`: the first k events were run by single calls, and their decisions stand in the buffer.
use Rattle.std.proofs.Common.{◌-◌, ◌*◌}
use Rattle.rules.specs.Numbers.{decision_numbers}
use Rattle.batching.proofs.Running.{Running}
use Rattle.batching.proofs.batch.run.Given as goal

abbrev pub invariant-loop-k : goal.invariant-loop-k
invariant-loop-k l = Running l.initial.m l.events l.initial.out l.good (l.count - l.k) l.used (l.k * decision_numbers) l.m l.out
