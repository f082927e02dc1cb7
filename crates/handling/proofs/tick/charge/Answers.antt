-- `tick::charge` meets its contract: the runner's count is raised, and its slice is one less.
use Rattle.std.proofs.Common.{sym, ◌∙◌}
use Rattle.laws.proofs.Single.{charge_none}
use Rattle.store.specs.Store.{tables}
use Rattle.handling.proofs.Leaving.{as_it_was, in_words}
use Rattle.handling.proofs.Ticking.{charged}
use Rattle.handling.proofs.tick.charge.Goals as goal

pub returns-in_default : goal.returns-in_default
returns-in_default c =
    in_words (sym (charge_none (tables c.args.m.now) (sym c.runner.ensures ∙ c.in_default.is)))
    (as_it_was c.requires.0.holding)

pub returns-in-Runs : goal.returns-in-Runs
returns-in-Runs c =
    charged _ _
    (sym c.runner.ensures
    ∙ c.in-Runs.is)
    c.add_tick.ensures
    c.set_runner.ensures
