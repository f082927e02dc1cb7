-- `memory::memory::put_ready` meets its contract.
use native.Mathlib.Omega.{arith}
use borrow.Author.Rules.{rules}
use Rattle.words.proofs.Said.{byte_same}
use Rattle.memory.specs.Memory.{rows_of}
use Rattle.memory.proofs.Changes.{queue_put}
use Rattle.memory.proofs.memory.put_ready.Goals as goal

pub bounds-m-i : goal.bounds-m-i
unfolding rows_of
bounds-m-i c = omega arith

pub returns : goal.returns
unfolding rows_of
returns c = queue_put c.args.m.now c.args.i 12 c.args.name _ c.requires.1 (omega arith)
    (byte_same c.args.name (search rules)) (omega arith) (omega arith)
