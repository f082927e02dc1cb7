-- `memory::memory::runner` meets its contract.
use native.Mathlib.Omega.{arith}
use Rattle.memory.specs.Memory.{rows_of}
use Rattle.memory.proofs.memory.runner.Goals as goal

pub bounds-m-3 : goal.bounds-m-3
unfolding rows_of
bounds-m-3 c = omega arith

pub bounds-m-4 : goal.bounds-m-4
unfolding rows_of
bounds-m-4 c = omega arith

pub returns : goal.returns
unfolding rows_of
returns c = c.runner_from.ensures
