-- `memory::memory::beats` meets its contract.
use mathlib.Core.Path.{refl}
use native.Mathlib.Omega.{arith}
use Rattle.memory.specs.Memory.{rows_of}
use Rattle.memory.proofs.memory.beats.Goals as goal

pub bounds-m-6 : goal.bounds-m-6
unfolding rows_of
bounds-m-6 c = omega arith

pub returns : goal.returns
unfolding rows_of
returns c = refl
