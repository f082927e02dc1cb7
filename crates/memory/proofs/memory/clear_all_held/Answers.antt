-- `memory::memory::clear_all_held` meets its contract.
use native.Mathlib.Omega.{arith}
use Rattle.memory.specs.Memory.{rows_of}
use Rattle.memory.proofs.Helds.{none_emptied, one_emptied, all_emptied}
use Rattle.memory.proofs.memory.clear_all_held.Goals as goal

pub loop-d-init : goal.loop-d-init
loop-d-init c = none_emptied _

pub bounds-m-d : goal.bounds-m-d
unfolding rows_of
bounds-m-d c = omega (arith, c.loop-d.invariant.apart.long)

pub loop-d-preserved : goal.loop-d-preserved
unfolding rows_of
loop-d-preserved c = one_emptied c.loop-d.d _ _ (omega arith) (omega arith) c.loop-d.invariant

pub shape_of-m : goal.shape_of-m
shape_of-m c = c.loop-d.invariant.apart.long

pub returns : goal.returns
returns c = all_emptied c.args.m.now c.loop-d.m c.loop-d.d (omega arith) c.loop-d.invariant
