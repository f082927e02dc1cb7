-- `moving::threads::find` meets its contract. One thread at most has the name, so the one at the hint is the first.
use Rattle.std.proofs.Common.{rules, ap, ◌∙◌, arith}
use borrow.Author.Tests.{tests, eq-eqb}
use Rattle.rules.specs.Tables.{named}
use Rattle.laws.specs.Words.{Thread}
use Rattle.memory.specs.Rows.{no_thread}
use Rattle.memory.proofs.Sizes.{threads_long}
use Rattle.std.proofs.lemmas.Iterator.Search.{position_from_yields_List}
use Rattle.std.proofs.lemmas.Iterator.Consumers.{YieldsList-from_first}
use Rattle.moving.proofs.Found.{at_hint}
use Rattle.moving.proofs.threads.find.Goals as goal

pub returns-then-name : goal.returns-then-name
returns-then-name c = at_hint (named c.args.name) _ _ _ no_thread
    (omega (arith, threads_long c.args.m.now, c.requires.1)) (omega (arith, c.if-hint-count.true, c.count.ensures))
    (eq-eqb _ _ (c.if-name.true ∙ c.name.ensures ∙ ap (λ (t : Thread). t.name) c.record.ensures))
    c.requires.2

pub returns : goal.returns
returns c = position_from_yields_List (named c.args.name) _ _ _ c.position.ensures.ran
    (YieldsList-from_first (λ x. x) (λ s. s) _ c.threads.ensures) (λ x b q k. search (rules, tests))
