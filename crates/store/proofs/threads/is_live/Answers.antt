-- `threads::is_live` meets its contract.
use Rattle.std.proofs.Common.{◌∙◌}
use Rattle.store.proofs.Searched.{live_found}
use Rattle.store.proofs.threads.is_live.Goals as goal

pub returns : goal.returns
returns c = c.is_some.ensures ∙ live_found c.args.m.now c.requires c.args.name c.find.ensures
