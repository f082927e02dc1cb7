-- `ranges::names_low` meets its contract.
use Rattle.std.proofs.Common.{rules, ltb, ◌∙◌}
use borrow.Author.Tests.{tests}
use Rattle.std.proofs.lemmas.Iterator.Search.{all_from_yields_List}
use Rattle.std.proofs.lemmas.Iterator.Consumers.{YieldsList-from_first}
use Rattle.rules.specs.Numbers.{names}
use Rattle.laws.specs.Words.{Thread}
use Rattle.memory.proofs.Listing.{all_is}
use Rattle.store.specs.Store.{tables}
use Rattle.ranging.proofs.ranges.names_low.Goals as goal

pub returns : goal.returns
unfolding tables
returns c = all_from_yields_List (λ (t : Thread). ltb t.name names) _ _ _ c.all.ensures.ran
    (YieldsList-from_first (λ x. x) (λ s. s) _ c.threads.ensures) (λ x b q k. search (rules, tests))
    ∙ all_is (λ (t : Thread). ltb t.name names) _
