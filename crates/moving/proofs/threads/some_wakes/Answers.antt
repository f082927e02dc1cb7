-- `moving::threads::some_wakes` meets its contract.
use Rattle.std.proofs.Common.{rules, ◌∙◌, sym, ap, arith}
use borrow.Author.Tests.{tests}
use Rattle.rules.specs.States.{wakes_from_outside}
use Rattle.laws.specs.Words.{Thread}
use Rattle.memory.specs.Rows.{no_thread}
use Rattle.memory.proofs.Listing.{any_is}
use Rattle.memory.proofs.Sizes.{threads_long}
use Rattle.std.proofs.lemmas.Iterator.Search.{any_from_yields_List}
use Rattle.std.proofs.lemmas.Iterator.Consumers.{YieldsList-from_first}
use Rattle.moving.proofs.Found.{hint_any}
use Rattle.moving.proofs.threads.some_wakes.Goals as goal

pub returns-then-wakes : goal.returns-then-wakes
returns-then-wakes c = sym (hint_any (λ (t : Thread). wakes_from_outside t.state) _ _ c.waiter_hint-hint.result no_thread
    (omega (arith, threads_long c.args.m.now, c.requires.1)) (omega (arith, c.if-hint-count.true, c.count.ensures))
    (ap (λ (t : Thread). wakes_from_outside t.state) (sym c.record.ensures) ∙ sym c.wakes.ensures ∙ c.if-wakes.true))

pub returns : goal.returns
returns c = any_from_yields_List (λ (t : Thread). wakes_from_outside t.state) _ _ _ c.any.ensures.ran
    (YieldsList-from_first (λ x. x) (λ s. s) _ c.threads.ensures) (λ x b q k. search (rules, tests))
    ∙ any_is (λ (t : Thread). wakes_from_outside t.state) _
