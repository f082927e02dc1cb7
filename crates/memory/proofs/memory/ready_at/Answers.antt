-- `memory::memory::ready_at` meets its contract.
use mathlib.Core.Path.{sym, ◌∙◌}
use native.Mathlib.Omega.{arith}
use Rattle.memory.specs.Memory.{rows_of, ready_of}
use Rattle.memory.proofs.Rowing.{row_at}
use Rattle.memory.proofs.memory.ready_at.Goals as goal

pub bounds-m-i : goal.bounds-m-i
unfolding rows_of
bounds-m-i c = omega arith

pub returns : goal.returns
unfolding rows_of
returns c = c.byte.ensures ∙ sym (row_at (ready_of c.args.m.now) _ c.args.i 0 c.requires.1)
