-- `memory::memory::hint_place` meets its contract.
use Prim.Native.Nat.{◌+◌, ◌%◌}
use native.Mathlib.Omega.{arith}
use Rattle.memory.specs.Memory.{rows_of}
use Rattle.memory.proofs.Changes.{hint_put}
use Rattle.memory.proofs.memory.hint_place.Goals as goal

pub bounds-m-name : goal.bounds-m-name
unfolding rows_of
bounds-m-name c = omega arith

pub returns : goal.returns
returns c = hint_put c.args.m.now (112 + c.args.name % 64) c.args.i (omega arith) (omega arith)
