-- `memory::memory::count` meets its contract.
use mathlib.Core.Path.{refl}
use native.Mathlib.Omega.{arith}
use Rattle.memory.specs.Memory.{rows_of}
use Rattle.memory.proofs.memory.count.Goals as goal

pub bounds-m-7 : goal.bounds-m-7
unfolding rows_of
bounds-m-7 c = omega arith

pub overflow_cast-result : goal.overflow_cast-result
unfolding rows_of
overflow_cast-result c = omega (arith, c.shared_slice_known-1.given 7)

pub returns : goal.returns
unfolding rows_of
returns c = refl
