-- `places::all_live` meets its contract.
use Rattle.std.proofs.Common.{rules, Bool, ℕ, refl, ◌∙◌}
use borrow.Author.Tests.{tests}
use Rattle.std.proofs.lemmas.Iterator.Search.{all_from_yields_List}
use Rattle.std.proofs.lemmas.Iterator.Consumers.{YieldsList-from_first}
use Rattle.rules.specs.Tables.{live}
use Rattle.memory.proofs.Listing.{all_is}
use Rattle.store.specs.Store.{tables}
use Rattle.agreeing.proofs.places.all_live.Goals as goal

pub returns : goal.returns
returns c = let p : ℕ → Bool = λ k. live k (tables c.args.x.now) in
    all_from_yields_List p _ _ _ c.all.ensures.ran (YieldsList-from_first (λ x. x) (λ s. s) _ refl)
    (λ x b q k. search (rules, tests)) ∙ all_is p _
