-- `threads::trapped_on` meets its contract.
use Rattle.std.proofs.Common.{rules, false}
use Rattle.rules.specs.States.{awaits}
use Rattle.store.proofs.Searched.{of_one}
use Rattle.store.proofs.threads.trapped_on.Goals as goal

pub returns : goal.returns
returns c = of_one false (awaits c.args.n) _ _ c.thread.ensures c.is_some_and.ensures (λ t q. search rules)
