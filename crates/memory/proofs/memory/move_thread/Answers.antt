-- `memory::memory::move_thread` meets its contract.
use Rattle.std.proofs.Common.{◌∙◌, arith}
use Rattle.memory.specs.Memory.{rows_of}
use Rattle.memory.proofs.Fields.{thread_moved, still_roomy}
use Rattle.memory.proofs.memory.move_thread.Goals as goal

pub copy_within-requires-clause-in_bounds : goal.copy_within-requires-clause-in_bounds
unfolding rows_of
copy_within-requires-clause-in_bounds c = omega arith

pub copy_within-requires-clause-dest_in_bounds : goal.copy_within-requires-clause-dest_in_bounds
unfolding rows_of
copy_within-requires-clause-dest_in_bounds c = omega arith

pub bounds-m-b : goal.bounds-m-b
unfolding rows_of
bounds-m-b c = omega (arith, c.copy_within.auto.self)

pub hint_place-requires : goal.hint_place-requires
unfolding rows_of
hint_place-requires c = (
  still_roomy (thread_moved c.args.m.now _ c.args.from c.args.to c.requires.1 c.requires.2 (omega arith) c.copy_within.ensures.after)
      c.requires.0,
  omega (arith, c.requires.0.low, c.requires.2),
)

pub returns : goal.returns
unfolding rows_of
returns c = c.hint_place.ensures
    ∙ thread_moved c.args.m.now _ c.args.from c.args.to c.requires.1 c.requires.2 (omega arith) c.copy_within.ensures.after
