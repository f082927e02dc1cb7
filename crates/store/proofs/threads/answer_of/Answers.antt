-- `threads::answer_of` meets its contract.
use Rattle.std.proofs.Common.{rules}
use Rattle.laws.specs.Words.{Nothing}
use Rattle.store.proofs.Searched.{of_one}
use Rattle.store.proofs.threads.answer_of.Goals as goal

pub returns : goal.returns
returns c = of_one Nothing (λ t. t.answer) _ _ c.thread.ensures c.map_or.ensures (λ t q. search rules)
