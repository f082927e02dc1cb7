-- `memory::memory::move_message` meets its contract.
use Rattle.std.proofs.Common.{arith}
use Rattle.memory.specs.Memory.{rows_of}
use Rattle.memory.proofs.Fields.{message_moved}
use Rattle.memory.proofs.memory.move_message.Goals as goal

pub bounds-m-0 : goal.bounds-m-0
unfolding rows_of
bounds-m-0 c = omega arith

pub copy_within-requires-clause-in_bounds : goal.copy_within-requires-clause-in_bounds
unfolding rows_of
copy_within-requires-clause-in_bounds c = omega arith

pub copy_within-requires-clause-dest_in_bounds : goal.copy_within-requires-clause-dest_in_bounds
unfolding rows_of
copy_within-requires-clause-dest_in_bounds c = omega arith

pub returns : goal.returns
unfolding rows_of
returns c = message_moved c.args.m.now _ c.args.from c.args.to c.requires.1 c.requires.2 (omega arith) c.copy_within.ensures.after
