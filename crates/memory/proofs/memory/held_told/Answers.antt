-- `memory::memory::held_told` meets its contract.
use mathlib.Core.Path.{sym}
use native.Mathlib.Omega.{arith}
use borrow.Author.Count.{below_more}
use Rattle.rules.specs.Numbers.{devices}
use Rattle.memory.specs.Memory.{rows_of}
use Rattle.memory.proofs.Helds.{untold, gentle_told, flags, inside}
use Rattle.memory.proofs.memory.held_told.Goals as goal

pub bounds-m-d : goal.bounds-m-d
unfolding rows_of
bounds-m-d c = omega arith

pub returns-then-m-d-gt1 : goal.returns-then-m-d-gt1
unfolding rows_of
returns-then-m-d-gt1 c = sym (untold (flags c.args.m.now) (inside c.args.m.now) 0 devices c.loop-d.d (omega arith)
    (omega arith) c.if-m-d-gt1.true)

pub loop-d-preserved : goal.loop-d-preserved
loop-d-preserved c = below_more _ _ c.loop-d.invariant c.if-m-d-gt1.false

pub returns : goal.returns
unfolding rows_of
returns c = sym (gentle_told (flags c.args.m.now) (inside c.args.m.now) 0 devices (omega arith)
    (λ j p q. c.loop-d.invariant j (omega arith)))
