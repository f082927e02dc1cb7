-- `memory::memory::last` meets its contract.
use native.Mathlib.Omega.{arith}
use Rattle.memory.specs.Memory.{rows_of}
use Rattle.memory.proofs.memory.last.Goals as goal

pub bounds-m-2 : goal.bounds-m-2
unfolding rows_of
bounds-m-2 c = omega arith

pub returns : goal.returns
unfolding rows_of
returns c = c.byte.ensures
