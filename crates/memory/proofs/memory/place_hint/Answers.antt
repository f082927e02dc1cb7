-- `memory::memory::place_hint` meets its contract.
use Prim.Native.Nat.{◌+◌, ◌%◌}
use native.Mathlib.Omega.{arith}
use Rattle.memory.specs.Memory.{rows_of}
use Rattle.memory.proofs.memory.place_hint.Goals as goal

pub bounds-m-name : goal.bounds-m-name
unfolding rows_of
bounds-m-name c = omega arith

pub overflow_cast-result-2 : goal.overflow_cast-result-2
unfolding rows_of
overflow_cast-result-2 c = omega (arith, c.shared_slice_known-1.given (112 + c.args.name % 64))
