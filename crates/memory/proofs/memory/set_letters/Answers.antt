-- `memory::memory::set_letters` meets its contract.
use native.Mathlib.Omega.{arith}
use Rattle.memory.specs.Memory.{rows_of}
use Rattle.memory.proofs.Changes.{head_put}
use Rattle.memory.proofs.memory.set_letters.Goals as goal

pub bounds-m-10 : goal.bounds-m-10
unfolding rows_of
bounds-m-10 c = omega arith

pub returns : goal.returns
unfolding rows_of
returns c = head_put c.args.m.now 10 c.args.n (omega arith) (omega arith) (omega arith)
