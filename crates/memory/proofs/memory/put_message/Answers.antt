-- `memory::memory::put_message` meets its contract.
use Prim.Native.Nat.{ℕ}
use mathlib.Core.List.{List}
use native.Mathlib.Omega.{arith}
use Rattle.words.specs.Saying.{word}
use Rattle.memory.specs.Memory.{rows_of}
use Rattle.memory.specs.Layout.{message_place}
use Rattle.memory.proofs.Rowing.{lent_size}
use Rattle.memory.proofs.Fields.{message_lent}
use Rattle.memory.proofs.memory.put_message.Goals as goal

pub bounds-m-0 : goal.bounds-m-0
unfolding rows_of
bounds-m-0 c = omega arith

pub overflow_cast-at : goal.overflow_cast-at
unfolding rows_of
overflow_cast-at c = omega (arith, c.slice_known-2-1.given 0)

pub overflow_mul-at : goal.overflow_mul-at
unfolding rows_of
overflow_mul-at c = omega arith

pub overflow_add-at : goal.overflow_add-at
unfolding rows_of
overflow_add-at c = omega arith

pub overflow_add-at-2 : goal.overflow_add-at-2
unfolding rows_of
overflow_add-at-2 c = omega arith

pub overflow_add-at-3 : goal.overflow_add-at-3
unfolding rows_of
overflow_add-at-3 c = omega arith

pub offset_bounds-m-at : goal.offset_bounds-m-at
unfolding rows_of
offset_bounds-m-at c = omega arith

pub slice_bounds-write_message-end : goal.slice_bounds-write_message-end
unfolding rows_of
slice_bounds-write_message-end c = omega arith

pub returns : goal.returns
unfolding rows_of
returns c = let m = c.args.m.now in
    let a = message_place (word m 0) c.args.i in
    let vs : List ℕ = c.write_message.new.w in
    message_lent m c.args.i c.requires.1 vs c.args.x (omega arith) (lent_size m a 3 vs (omega arith) c.m-1.given.0)
    c.write_message.ensures
