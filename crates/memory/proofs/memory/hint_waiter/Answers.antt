-- `memory::memory::hint_waiter` meets its contract.
use native.Mathlib.Omega.{arith}
use Rattle.memory.specs.Memory.{rows_of}
use Rattle.memory.proofs.Changes.{head_put}
use Rattle.memory.proofs.memory.hint_waiter.Goals as goal

pub bounds-m-12 : goal.bounds-m-12
unfolding rows_of
bounds-m-12 c = omega arith

pub returns : goal.returns
unfolding rows_of
returns c = head_put c.args.m.now 12 c.args.i (omega arith) (omega arith) (omega arith)
