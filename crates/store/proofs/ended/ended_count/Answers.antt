-- `ended::ended_count` meets its contract.
use Rattle.std.proofs.Common.{sym, ◌∙◌}
use Rattle.store.specs.Store.{limits, found}
use Rattle.memory.proofs.Sizes.{members_count}
use Rattle.store.proofs.ended.ended_count.Goals as goal

pub returns : goal.returns
unfolding limits found
returns c = c.ends.ensures ∙ sym (members_count c.args.m.now c.requires.low)
