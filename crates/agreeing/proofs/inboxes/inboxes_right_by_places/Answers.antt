-- `inboxes::inboxes_right_by_places` meets its contract: the rules ask each thread, and the code asks each message.
use Rattle.std.proofs.Common.{rules, Bool, not, ℕ, List, ap, ◌∙◌}
use borrow.Author.Tests.{tests}
use Rattle.std.proofs.lemmas.Iterator.Search.{all_from_yields_List}
use Rattle.std.proofs.lemmas.Iterator.Consumers.{YieldsList-from_first}
use Rattle.rules.specs.Lists.{any}
use Rattle.rules.specs.Waking.{accepts}
use Rattle.laws.specs.Words.{Message}
use Rattle.memory.proofs.Listing.{all_is}
use Rattle.store.specs.Store.{tables}
use Rattle.agreeing.proofs.Inboxing.{by_messages}
use Rattle.agreeing.proofs.inboxes.inboxes_right_by_places.Goals as goal

pub returns : goal.returns
unfolding tables
returns c = let p : Message → Bool = λ l. not (any (accepts l) (tables c.args.x.now).threads) in
    all_from_yields_List p _ _ _ c.all.ensures.ran
    (YieldsList-from_first (λ x. x) (λ s. s) _ (c.messages.ensures ∙ ap (λ (v : List ℕ). (tables v).messages) c.words.ensures.same))
    (λ x b q k. search (rules, tests)) ∙ all_is p _ ∙ by_messages _ _
