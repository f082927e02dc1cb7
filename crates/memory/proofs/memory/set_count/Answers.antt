-- `memory::memory::set_count` meets its contract.
use native.Mathlib.Omega.{arith}
use Rattle.memory.specs.Memory.{rows_of}
use Rattle.memory.proofs.Changes.{head_put}
use Rattle.memory.proofs.memory.set_count.Goals as goal

pub bounds-m-7 : goal.bounds-m-7
unfolding rows_of
bounds-m-7 c = omega arith

pub returns : goal.returns
unfolding rows_of
returns c = head_put c.args.m.now 7 c.args.n (omega arith) (omega arith) (omega arith)
