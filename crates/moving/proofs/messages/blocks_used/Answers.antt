-- `moving::messages::blocks_used` meets its contract.
use Rattle.std.proofs.Common.{rules, ◌∙◌}
use borrow.Author.Tests.{tests}
use Rattle.laws.specs.Words.{Message}
use Rattle.rules.specs.Waking.{is_ordinary}
use Rattle.memory.proofs.Listing.{count_is}
use Rattle.std.proofs.lemmas.Iterator.Consumers.{YieldsList-at, YieldsList-from_first, YieldsList-from_filter, count_from_yields_List}
use Rattle.moving.proofs.messages.blocks_used.Goals as goal

pub returns : goal.returns
returns c = count_from_yields_List c.filter.result _ c.count.ensures.ran
    (YieldsList-from_filter _ (λ (x : Message). is_ordinary x.kind)
    (YieldsList-at c.filter.ensures.source (YieldsList-from_first (λ x. x) (λ s. s) _ c.messages.ensures))
    c.filter.ensures.closure (λ x r q k. search (rules, tests)))
    ∙ count_is (λ (x : Message). is_ordinary x.kind) _
