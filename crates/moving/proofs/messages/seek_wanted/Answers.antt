-- `moving::messages::seek_wanted` meets its contract.
use Rattle.std.proofs.Common.{rules}
use borrow.Author.Tests.{tests}
use Rattle.rules.specs.Receive.{wanted_by}
use Rattle.std.proofs.lemmas.Iterator.Search.{position_from_yields_List}
use Rattle.std.proofs.lemmas.Iterator.Consumers.{YieldsList-from_first}
use Rattle.moving.proofs.messages.seek_wanted.Goals as goal

pub returns : goal.returns
returns c = position_from_yields_List (wanted_by c.args.me c.args.w) _ _ _ c.position.ensures.ran
    (YieldsList-from_first (λ x. x) (λ s. s) _ c.messages.ensures) (λ x b q k. search (rules, tests))
