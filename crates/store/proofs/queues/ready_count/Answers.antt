-- `queues::ready_count` meets its contract.
use Rattle.std.proofs.Common.{◌∙◌}
use Rattle.store.proofs.Searched.{ready_length}
use Rattle.store.proofs.queues.ready_count.Goals as goal

pub returns : goal.returns
returns c = c.readies.ensures ∙ ready_length c.args.m.now c.requires
