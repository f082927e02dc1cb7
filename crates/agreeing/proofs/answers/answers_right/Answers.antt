-- `answers::answers_right` meets its contract.
use Rattle.std.proofs.Common.{rules, Bool, ◌&&◌, ◌||◌, ◌∙◌}
use borrow.Author.Tests.{tests}
use Rattle.std.proofs.lemmas.Iterator.Search.{all_from_yields_List}
use Rattle.std.proofs.lemmas.Iterator.Consumers.{YieldsList-from_first}
use Rattle.rules.specs.States.{is_ready}
use Rattle.rules.specs.TableRules.{answer_in_range, is_nothing}
use Rattle.laws.specs.Words.{Thread}
use Rattle.memory.proofs.Listing.{all_is}
use Rattle.store.specs.Store.{tables}
use Rattle.agreeing.proofs.answers.answers_right.Goals as goal

pub returns : goal.returns
unfolding tables
returns c = let p : Thread → Bool = λ t. answer_in_range t.answer && (is_ready t.state || is_nothing t.answer) in
    all_from_yields_List p _ _ _ c.all.ensures.ran (YieldsList-from_first (λ x. x) (λ s. s) _ c.threads.ensures)
    (λ x b q k. search (rules, tests)) ∙ all_is p _
