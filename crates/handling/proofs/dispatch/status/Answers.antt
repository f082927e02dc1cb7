-- `dispatch::status` meets its contract: a runner, no thread, or a thread that something outside wakes.
use Rattle.std.proofs.Common.{true, false, sym, ◌∙◌}
use Rattle.store.specs.Store.{tables}
use Rattle.handling.proofs.Dispatching.{working, halted, rests}
use Rattle.handling.proofs.dispatch.status.Goals as goal

pub returns-then-thread_count-eq0 : goal.returns-then-thread_count-eq0
returns-then-thread_count-eq0 c =
    halted
    (tables c.args.m.now)
    (sym c.runner.ensures ∙ c.in_default.is)
    (sym c.thread_count.ensures ∙ c.if-thread_count-eq0.true)

pub returns-in-Runs : goal.returns-in-Runs
returns-in-Runs c = working (tables c.args.m.now) _ _ (sym c.runner.ensures
    ∙ c.in-Runs.is)

pub returns-then-some_wakes : goal.returns-then-some_wakes
returns-then-some_wakes c =
    let T = tables c.args.m.now in
    rests T
    (sym c.runner.ensures ∙ c.in_default.is)
    (λ e. c.if-thread_count-eq0.false (c.thread_count.ensures ∙ e))
    true
    (sym c.some_wakes.ensures ∙ c.if-some_wakes.true)

pub returns-else-some_wakes : goal.returns-else-some_wakes
returns-else-some_wakes c =
    let T = tables c.args.m.now in
    rests T
    (sym c.runner.ensures ∙ c.in_default.is)
    (λ e. c.if-thread_count-eq0.false (c.thread_count.ensures ∙ e))
    false
    (sym c.some_wakes.ensures ∙ c.if-some_wakes.false)
