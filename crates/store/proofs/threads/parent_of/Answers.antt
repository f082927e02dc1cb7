-- `threads::parent_of` meets its contract.
use Rattle.std.proofs.Common.{rules}
use Rattle.laws.specs.Words.{NoParent}
use Rattle.store.proofs.Searched.{of_one}
use Rattle.store.proofs.threads.parent_of.Goals as goal

pub returns : goal.returns
returns c = of_one NoParent (λ t. t.parent) _ _ c.thread.ensures c.map_or.ensures (λ t q. search rules)
