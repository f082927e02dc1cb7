-- `memory::memory::move_clock` meets its contract: the word says the same name at both places.
use Prim.Native.Nat.{◌+◌}
use mathlib.Core.Path.{sym}
use native.Mathlib.Omega.{arith}
use Rattle.words.specs.Saying.{word}
use Rattle.memory.specs.Layout.{thread_place}
use Rattle.memory.specs.Memory.{rows_of, clock_of}
use Rattle.memory.proofs.Rowing.{row_at}
use Rattle.memory.proofs.Changes.{queue_put}
use Rattle.memory.proofs.memory.move_clock.Goals as goal

pub bounds-m-from : goal.bounds-m-from
unfolding rows_of
bounds-m-from c = omega arith

pub bounds-m-to : goal.bounds-m-to
unfolding rows_of
bounds-m-to c = omega arith

pub returns : goal.returns
unfolding rows_of
returns c = let m = c.args.m.now in
    queue_put m c.args.to 13 (word m (thread_place c.args.from + 13)) _ c.requires.2 (omega arith)
    (sym (row_at (clock_of m) _ c.args.from 0 c.requires.1)) (omega arith) (omega arith)
