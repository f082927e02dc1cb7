-- `memory::memory::message_at` meets its contract.
use mathlib.Core.Path.{sym, ap, ◌∙◌}
use native.Mathlib.Omega.{arith}
use Rattle.words.specs.Saying.{word, message_in}
use Rattle.memory.specs.Memory.{rows_of, message_of}
use Rattle.memory.specs.Layout.{message_place}
use Rattle.memory.proofs.Rowing.{row_at, lent_is}
use Rattle.memory.proofs.memory.message_at.Goals as goal

pub bounds-m-0 : goal.bounds-m-0
unfolding rows_of
bounds-m-0 c = omega arith

pub overflow_cast-at : goal.overflow_cast-at
unfolding rows_of
overflow_cast-at c = omega (arith, c.shared_slice_known-2-1.given 0)

pub overflow_mul-at : goal.overflow_mul-at
unfolding rows_of
overflow_mul-at c = omega arith

pub overflow_add-at : goal.overflow_add-at
unfolding rows_of
overflow_add-at c = omega arith

pub overflow_add-at-2 : goal.overflow_add-at-2
unfolding rows_of
overflow_add-at-2 c = omega arith

pub overflow_add-at-3 : goal.overflow_add-at-3
unfolding rows_of
overflow_add-at-3 c = omega arith

pub offset_bounds-m-at : goal.offset_bounds-m-at
unfolding rows_of
offset_bounds-m-at c = omega arith

pub slice_bounds-read_message-end : goal.slice_bounds-read_message-end
unfolding rows_of
slice_bounds-read_message-end c = omega arith

pub returns : goal.returns
unfolding rows_of
returns c = let m = c.args.m.now in
    c.read_message.ensures ∙ ap message_in (lent_is m (message_place (word m 0) c.args.i) 3)
    ∙ sym (row_at (message_of m) _ c.args.i _ c.requires.1)
