-- `step::step_in` meets its contract: 11, or the step.
use mathlib.Core.Path.{sym, ◌∙◌}
use Rattle.lending.proofs.Standing.{checked, refused_11, stepped}
use Rattle.lending.proofs.step.step_in.Goals as goal

pub returns-then-not-check : goal.returns-then-not-check
returns-then-not-check c = refused_11 (sym c.check.ensures ∙ c.if-not-check.true) c.no_tables.ensures

pub step-requires : goal.step-requires
step-requires c = (checked _ (sym c.check.ensures ∙ c.if-not-check.false)).0

pub returns : goal.returns
returns c =
    stepped (sym c.check.ensures ∙ c.if-not-check.false)
    c.step.ensures
