-- `managers::names_live` meets its contract.
use Rattle.std.proofs.Common.{rules, Bool, ℕ, List, ap, ◌&&◌, ◌∙◌}
use borrow.Author.Tests.{tests}
use Rattle.std.proofs.lemmas.Iterator.Search.{all_from_yields_List}
use Rattle.std.proofs.lemmas.Iterator.Consumers.{YieldsList-from_first}
use Rattle.rules.specs.TableRules.{wanted_live, entries_right}
use Rattle.laws.specs.Words.{Thread}
use Rattle.memory.proofs.Listing.{all_is}
use Rattle.store.specs.Store.{tables}
use Rattle.agreeing.proofs.managers.names_live.Goals as goal

pub returns : goal.returns
unfolding tables
returns c = let p : Thread → Bool = λ t. wanted_live (tables c.args.x.now) t.state && entries_right (tables c.args.x.now) t in
    all_from_yields_List p _ _ _ c.all.ensures.ran (YieldsList-from_first (λ x. x) (λ s. s) _ (c.threads.ensures ∙ ap (λ (v : List ℕ). (tables v).threads) c.words.ensures.same))
    (λ x b q k. search (rules, tests)) ∙ all_is p _
