-- `threads::receives_from` meets its contract.
use Rattle.std.proofs.Common.{rules, false}
use Rattle.rules.specs.States.{receives}
use Rattle.store.proofs.Searched.{of_one}
use Rattle.store.proofs.threads.receives_from.Goals as goal

pub returns : goal.returns
returns c = of_one false (λ t. receives c.args.sender t.state) _ _ c.thread.ensures c.is_some_and.ensures (λ t q. search rules)
