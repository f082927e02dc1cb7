-- `inboxes::is_match` meets its contract: the thread of the receiver's name is the only one that could accept the message.
use Rattle.std.proofs.Common.{◌≡◌, ℕ, List, Some, position, sym, ap, ap₂, ◌∙◌}
use Rattle.rules.specs.Tables.{named}
use Rattle.rules.specs.States.{receives}
use Rattle.laws.specs.Words.{Thread}
use Rattle.store.specs.Store.{tables}
use Rattle.indexing.proofs.Indexing.{thread_found, none_found, once_there}
use Rattle.agreeing.proofs.inboxes.is_match.Goals as goal

pub returns-in-Some : goal.returns-in-Some
returns-in-Some c =
    let l = c.args.l.now in
    let e : position (named l.to) (tables c.words.result.now).threads ≡ Some c.in-Some.j =
    ap₂ (λ (k : ℕ) (v : List ℕ). position (named k) (tables v).threads) (sym c.to-to.ensures) c.words.ensures.same
    ∙ sym c.place_of.ensures ∙ c.in-Some.is in
    rw (← c.words.ensures.same) (c.receives.ensures
    ∙ ap₂ (λ (k : ℕ) (t : Thread). receives k t.state) c.from-from.ensures c.record.ensures
    ∙ sym (thread_found c.words.result.now c.words.ensures.shaped (once_there c.words.ensures.same c.requires) l.to c.in-Some.j e
    (λ t. receives l.from t.state)))

pub returns-in-None : goal.returns-in-None
returns-in-None c =
    let l = c.args.l.now in
    sym (none_found (named l.to) (λ t. receives l.from t.state) (tables c.args.x.now).threads
    (ap (λ (k : ℕ). position (named k) (tables c.args.x.now).threads) (sym c.to-to.ensures) ∙ sym c.place_of.ensures ∙ c.in-None.is))
