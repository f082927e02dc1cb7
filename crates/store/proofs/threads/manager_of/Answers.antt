-- `threads::manager_of` meets its contract.
use Rattle.std.proofs.Common.{rules}
use Rattle.rules.specs.Tables.{manager}
use Rattle.laws.specs.Words.{Unset}
use Rattle.store.proofs.Searched.{of_one}
use Rattle.store.proofs.threads.manager_of.Goals as goal

pub returns : goal.returns
returns c = of_one Unset (λ t. manager c.args.k t.managers) _ _ c.thread.ensures c.map_or.ensures (λ t q. search rules)
