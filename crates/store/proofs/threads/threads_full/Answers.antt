-- `threads::threads_full` meets its contract.
use Rattle.std.proofs.Common.{leb, ◌∙◌, ap₂}
use Rattle.store.specs.Store.{limits}
use Rattle.store.proofs.Searched.{threads_length}
use Rattle.store.proofs.threads.threads_full.Goals as goal

pub returns : goal.returns
unfolding limits
returns c =
    ap₂ leb c.limit.ensures (c.count.ensures ∙ threads_length c.args.m.now c.requires)
