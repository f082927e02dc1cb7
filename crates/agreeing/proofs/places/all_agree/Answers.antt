-- `places::all_agree` meets its contract: each thread is looked up in the counts of both queues.
use Rattle.std.proofs.Common.{◌≡◌, rules, Bool, get_or, ◌∙◌}
use borrow.Author.Tests.{tests}
use Rattle.std.proofs.lemmas.Iterator.Search.{all_from_yields_List}
use Rattle.std.proofs.lemmas.Iterator.Consumers.{YieldsList-from_first}
use Rattle.rules.specs.Lists.{times_in}
use Rattle.laws.specs.Words.{Thread}
use Rattle.memory.proofs.Listing.{all_is}
use Rattle.store.specs.Store.{tables}
use Rattle.indexing.proofs.Standing.{standing, looked}
use Rattle.agreeing.proofs.places.all_agree.Goals as goal

pub returns : goal.returns
unfolding tables
returns c =
    let T = tables c.args.m.now in
    let p : Thread → Bool = λ t. standing T.runner (times_in T.ready t.name) (times_in T.clock t.name) t.name t.state in
    let read : Thread → Bool = λ t. standing c.runner-r.result (get_or c.tally-in_ready.result t.name 0)
    (get_or c.tally-in_clock.result t.name 0) t.name t.state in
    let same : (t : Thread) → read t ≡ p t = λ t. looked _ _ c.runner-r.ensures c.tally-in_ready.ensures c.ready.ensures
    c.tally-in_clock.ensures c.clock.ensures t.name t.state in
    all_from_yields_List p _ _ _ c.all.ensures.ran (YieldsList-from_first (λ x. x) (λ s. s) _ c.threads.ensures)
    (λ t b q k. let w : (q ≡ _) × (b ≡ read t) = search (rules, tests) in (w.0, w.1 ∙ same t)) ∙ all_is p _
