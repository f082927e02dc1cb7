-- `memory::memory::set_clocks` meets its contract.
use native.Mathlib.Omega.{arith}
use Rattle.memory.specs.Memory.{rows_of}
use Rattle.memory.proofs.Changes.{head_put}
use Rattle.memory.proofs.memory.set_clocks.Goals as goal

pub bounds-m-9 : goal.bounds-m-9
unfolding rows_of
bounds-m-9 c = omega arith

pub returns : goal.returns
unfolding rows_of
returns c = head_put c.args.m.now 9 c.args.n (omega arith) (omega arith) (omega arith)
