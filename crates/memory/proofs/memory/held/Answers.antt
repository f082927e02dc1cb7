-- `memory::memory::held` meets its contract.
use Rattle.std.proofs.Common.{sym, arith}
use Rattle.memory.specs.Memory.{rows_of}
use Rattle.memory.proofs.Helds.{held_found, held_none, flags, inside}
use Rattle.memory.proofs.memory.held.Goals as goal

pub bounds-m-place : goal.bounds-m-place
unfolding rows_of
bounds-m-place c = omega arith

pub bounds-m-place-then-m-place-eq1 : goal.bounds-m-place-then-m-place-eq1
unfolding rows_of
bounds-m-place-then-m-place-eq1 c = omega arith

pub returns-then-m-place-eq1 : goal.returns-then-m-place-eq1
unfolding rows_of
returns-then-m-place-eq1 c = sym (held_found (flags c.args.m.now) (inside c.args.m.now) c.args.d c.requires.1 c.if-m-place-eq1.true)

pub returns-else-m-place-eq1 : goal.returns-else-m-place-eq1
unfolding rows_of
returns-else-m-place-eq1 c = sym (held_none (flags c.args.m.now) (inside c.args.m.now) c.args.d c.requires.1 c.if-m-place-eq1.false)
