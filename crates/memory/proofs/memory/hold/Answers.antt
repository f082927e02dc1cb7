-- `memory::memory::hold` meets its contract.
use native.Mathlib.Omega.{arith}
use lib.ListN.{length-set}
use Rattle.memory.specs.Memory.{rows_of}
use Rattle.memory.proofs.Helds.{hold_put}
use Rattle.memory.proofs.memory.hold.Goals as goal

pub bounds-m-at : goal.bounds-m-at
unfolding rows_of
bounds-m-at c = omega arith

pub bounds-m-at-2 : goal.bounds-m-at-2
unfolding rows_of
bounds-m-at-2 c = simp length-set (omega arith)

pub returns : goal.returns
returns c = hold_put c.args.m.now c.args.d c.requires.1 (unfold rows_of in omega arith) c.requires.2 c.args.word
