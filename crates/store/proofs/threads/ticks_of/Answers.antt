-- `threads::ticks_of` meets its contract.
use Rattle.std.proofs.Common.{rules}
use Rattle.store.proofs.Searched.{of_one}
use Rattle.store.proofs.threads.ticks_of.Goals as goal

pub returns : goal.returns
returns c = of_one 0 (λ t. t.ticks) _ _ c.thread.ensures c.map_or.ensures (λ t q. search rules)
