-- `tick::rotate` meets its contract: with a used-up slice the runner is woken and nobody runs.
use Rattle.std.proofs.Common.{sym, ◌∙◌, arith}
use Rattle.laws.proofs.Single.{rotate_stays, rotate_none}
use Rattle.store.specs.Store.{tables}
use Rattle.handling.proofs.Leaving.{as_it_was, in_words}
use Rattle.handling.proofs.Ticking.{runner_fits, rotated}
use Rattle.handling.proofs.tick.rotate.Goals as goal

pub wake-requires : goal.wake-requires
wake-requires c = (
  c.requires.holding,
  runner_fits (tables c.args.m.now) _ _ (sym c.runner.ensures
      ∙ c.in-Runs.is) c.requires.inv,
)

pub returns-then-slice-eq0 : goal.returns-then-slice-eq0
returns-then-slice-eq0 c =
    rotated _ _ (sym c.runner.ensures ∙ c.in-Runs.is) c.if-slice-eq0.true c.wake.ensures c.set_runner.ensures

pub returns-else-slice-eq0 : goal.returns-else-slice-eq0
returns-else-slice-eq0 c =
    in_words
    (sym (rotate_stays (tables c.args.m.now) _ _ (sym c.runner.ensures ∙ c.in-Runs.is) (omega (arith, c.if-slice-eq0.false))))
    (as_it_was c.requires.holding)

pub returns-in_default : goal.returns-in_default
returns-in_default c =
    in_words (sym (rotate_none (tables c.args.m.now) (sym c.runner.ensures ∙ c.in_default.is))) (as_it_was c.requires.holding)
