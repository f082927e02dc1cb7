-- `managers::trapped_right` meets its contract.
use Rattle.std.proofs.Common.{rules, Bool, ◌∙◌}
use borrow.Author.Tests.{tests}
use Rattle.std.proofs.lemmas.Iterator.Search.{all_from_yields_List}
use Rattle.std.proofs.lemmas.Iterator.Consumers.{YieldsList-from_first}
use Rattle.rules.specs.TableRules.{manager_set}
use Rattle.laws.specs.Words.{Thread}
use Rattle.memory.proofs.Listing.{all_is}
use Rattle.store.specs.Store.{tables}
use Rattle.agreeing.proofs.managers.trapped_right.Goals as goal

pub returns : goal.returns
unfolding tables
returns c = let p : Thread → Bool = λ t. manager_set t.managers t.state in
    all_from_yields_List p _ _ _ c.all.ensures.ran (YieldsList-from_first (λ x. x) (λ s. s) _ c.threads.ensures)
    (λ x b q k. search (rules, tests)) ∙ all_is p _
