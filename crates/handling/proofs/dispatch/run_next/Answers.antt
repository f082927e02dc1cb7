-- `dispatch::run_next` meets its contract: nobody is ready, or the front of the queue is taken.
use Rattle.std.proofs.Common.{sym, ◌∙◌}
use Rattle.store.specs.Store.{tables}
use Rattle.rules.specs.Waking.{◌handing◌}
use Rattle.handling.proofs.Leaving.{as_it_was, and_hands}
use Rattle.handling.proofs.Dispatching.{nobody_ready, front_runs, turned_front, front_gone}
use Rattle.handling.proofs.dispatch.run_next.Goals as goal

pub returns-then-ready_count-eq0 : goal.returns-then-ready_count-eq0
returns-then-ready_count-eq0 c =
    let T = tables c.args.m.now in
    and_hands (as_it_was c.requires.holding)
    (nobody_ready T.ready (T handing c.args.given) (sym c.ready_count.ensures ∙ c.if-ready_count-eq0.true))

pub drop_front-requires : goal.drop_front-requires
drop_front-requires c =
    turned_front _ _ c.turn.ensures (λ e. c.if-ready_count-eq0.false (c.ready_count.ensures ∙ e))

pub returns : goal.returns
returns c =
    and_hands
    (front_gone _ _ c.turn.ensures _ c.drop_front.ensures
    c.set_runner.ensures)
    (front_runs (tables c.args.m.now) c.args.given _ _
    (λ e. c.if-ready_count-eq0.false (c.ready_count.ensures ∙ e))
    c.ready_at-name.ensures
    c.answer_of-answer.ensures)
