-- `threads::thread_count` meets its contract.
use Rattle.std.proofs.Common.{◌∙◌}
use Rattle.store.proofs.Searched.{threads_length}
use Rattle.store.proofs.threads.thread_count.Goals as goal

pub returns : goal.returns
returns c = c.count.ensures ∙ threads_length c.args.m.now c.requires
