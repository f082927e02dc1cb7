-- `memory::memory::set_ticks` meets its contract.
use mathlib.Core.Path.{refl}
use native.Mathlib.Omega.{arith}
use Rattle.rules.specs.Tables.{with_ticks}
use Rattle.memory.specs.Memory.{rows_of}
use Rattle.memory.proofs.Fields.{thread_store}
use Rattle.memory.proofs.memory.set_ticks.Goals as goal

pub bounds-m-i : goal.bounds-m-i
unfolding rows_of
bounds-m-i c = omega arith

pub returns : goal.returns
unfolding rows_of
returns c = thread_store c.args.m.now c.args.i c.requires.1 7 c.args.n (with_ticks c.args.n) (omega arith) (omega arith)
    (omega arith) refl
