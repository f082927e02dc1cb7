-- `memory::memory::since` meets its contract.
use native.Mathlib.Omega.{arith}
use Rattle.memory.specs.Memory.{rows_of}
use Rattle.memory.proofs.memory.since.Goals as goal

pub bounds-m-5 : goal.bounds-m-5
unfolding rows_of
bounds-m-5 c = omega arith

pub returns : goal.returns
unfolding rows_of
returns c = c.byte.ensures
