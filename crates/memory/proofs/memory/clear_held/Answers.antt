-- `memory::memory::clear_held` meets its contract.
use native.Mathlib.Omega.{arith}
use Rattle.memory.specs.Memory.{rows_of}
use Rattle.memory.proofs.Helds.{clear_put}
use Rattle.memory.proofs.memory.clear_held.Goals as goal

pub bounds-m-d : goal.bounds-m-d
unfolding rows_of
bounds-m-d c = omega arith

pub returns : goal.returns
returns c = clear_put c.args.m.now c.args.d c.requires.1 (unfold rows_of in omega arith) c.requires.2
