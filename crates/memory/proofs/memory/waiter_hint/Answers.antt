-- `memory::memory::waiter_hint` meets its contract.
use native.Mathlib.Omega.{arith}
use Rattle.memory.specs.Memory.{rows_of}
use Rattle.memory.proofs.memory.waiter_hint.Goals as goal

pub bounds-m-12 : goal.bounds-m-12
unfolding rows_of
bounds-m-12 c = omega arith

pub overflow_cast-result : goal.overflow_cast-result
unfolding rows_of
overflow_cast-result c = omega (arith, c.shared_slice_known-1.given 12)
