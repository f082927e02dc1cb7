-- `moving::threads::find_waiter` meets its contract.
use Rattle.std.proofs.Common.{rules}
use borrow.Author.Tests.{tests}
use Rattle.rules.specs.States.{waits_for}
use Rattle.std.proofs.lemmas.Iterator.Search.{position_from_yields_List}
use Rattle.std.proofs.lemmas.Iterator.Consumers.{YieldsList-from_first}
use Rattle.moving.proofs.threads.find_waiter.Goals as goal

pub returns : goal.returns
returns c = position_from_yields_List (waits_for c.args.d) _ _ _ c.position.ensures.ran (YieldsList-from_first (λ x. x) (λ s. s) _ c.threads.ensures) (λ x b q k. search (rules, tests))
