-- `queues::clock_count` meets its contract.
use Rattle.std.proofs.Common.{◌∙◌}
use Rattle.store.proofs.Searched.{clock_length}
use Rattle.store.proofs.queues.clock_count.Goals as goal

pub returns : goal.returns
returns c = c.clocks.ensures ∙ clock_length c.args.m.now c.requires
