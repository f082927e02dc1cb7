-- `memory::memory::turn` meets its contract.
use Prim.Native.Nat.{ℕ}
use mathlib.Core.Path.{sym, ap, ◌∙◌}
use mathlib.Core.List.{List}
use native.Mathlib.Omega.{arith}
use Rattle.rules.specs.Tables.{in_state}
use Rattle.words.specs.Saying.{thread_in}
use Rattle.memory.specs.Memory.{rows_of, thread_of}
use Rattle.memory.specs.Rows.{no_thread}
use Rattle.memory.specs.Layout.{thread_place}
use Rattle.memory.proofs.Rowing.{row_at, lent_is, lent_size}
use Rattle.memory.proofs.Fields.{thread_lent}
use Rattle.memory.proofs.memory.turn.Goals as goal

pub slice_bounds-turn_thread-end : goal.slice_bounds-turn_thread-end
unfolding rows_of
slice_bounds-turn_thread-end c = omega arith

pub returns : goal.returns
unfolding rows_of
returns c = let m = c.args.m.now in
    let a = thread_place c.args.i in
    let vs : List ℕ = c.turn_thread.new.w in
    thread_lent m c.args.i c.requires.1 vs _ (omega arith) (lent_size m a 11 vs (omega arith) c.m-1.given.0)
    (c.turn_thread.ensures
    ∙ ap (in_state c.args.s c.args.a) (ap thread_in (lent_is m a 11)
    ∙ sym (row_at (thread_of m) _ c.args.i no_thread c.requires.1)))
