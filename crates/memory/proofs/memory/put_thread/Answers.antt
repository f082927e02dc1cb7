-- `memory::memory::put_thread` meets its contract.
use Prim.Native.Nat.{ℕ}
use mathlib.Core.Path.{◌∙◌}
use mathlib.Core.List.{List}
use native.Mathlib.Omega.{arith}
use Rattle.memory.specs.Memory.{rows_of}
use Rattle.memory.specs.Layout.{thread_place}
use Rattle.memory.proofs.Rowing.{lent_size}
use Rattle.memory.proofs.Fields.{thread_lent, still_roomy}
use Rattle.memory.proofs.memory.put_thread.Goals as goal

pub slice_bounds-write_thread-end : goal.slice_bounds-write_thread-end
unfolding rows_of
slice_bounds-write_thread-end c = omega arith

pub hint_place-requires : goal.hint_place-requires
unfolding rows_of
hint_place-requires c = let m = c.args.m.now in
    let a = thread_place c.args.i in
    let vs : List ℕ = c.write_thread.new.w in (
      still_roomy (thread_lent m c.args.i c.requires.1 vs c.args.t (omega arith)
          (lent_size m a 11 vs (omega arith) c.m-1.given.0) c.write_thread.ensures)
          c.requires.0,
      omega (arith, c.requires.0.low, c.requires.1),
    )

pub returns : goal.returns
unfolding rows_of
returns c = let m = c.args.m.now in
    let a = thread_place c.args.i in
    let vs : List ℕ = c.write_thread.new.w in
    c.hint_place.ensures
    ∙ thread_lent m c.args.i c.requires.1 vs c.args.t (omega arith)
    (lent_size m a 11 vs (omega arith) c.m-1.given.0)
    c.write_thread.ensures
