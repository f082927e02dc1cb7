-- `dispatch::dispatch` meets its contract: the front of the queue runs where nobody does, and else the runner goes on.
use Rattle.std.proofs.Common.{sym, ◌∙◌}
use Rattle.rules.specs.Waking.{◌handing◌}
use Rattle.laws.proofs.Single.{dispatch_stays}
use Rattle.store.specs.Store.{tables}
use Rattle.handling.proofs.Leaving.{as_it_was, and_hands}
use Rattle.handling.proofs.Dispatching.{nobody_runs}
use Rattle.handling.proofs.dispatch.dispatch.Goals as goal

pub returns-in-NoRunner : goal.returns-in-NoRunner
returns-in-NoRunner c =
    let h = c.run_next.ensures in
    record {
      says = h.says ∙ nobody_runs (tables c.args.m.now handing c.args.given)
          (sym c.runner.ensures
          ∙ c.in-NoRunner.is);
      same = h.same;
      holding = h.holding;
    }

pub returns-in-Runs : goal.returns-in-Runs
returns-in-Runs c =
    and_hands (as_it_was c.requires.holding)
    (sym (dispatch_stays (tables c.args.m.now handing c.args.given) _ _ (sym c.runner.ensures
    ∙ c.in-Runs.is)))
