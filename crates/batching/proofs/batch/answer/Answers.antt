-- `batch::answer` meets its contract: 11, or the step.
use mathlib.Core.Path.{sym, ◌∙◌}
use Rattle.lending.proofs.Standing.{checked, refused_11, stepped}
use Rattle.batching.proofs.batch.answer.Goals as goal

pub returns-then-not-good : goal.returns-then-not-good
returns-then-not-good c = refused_11 (sym c.requires ∙ c.if-not-good.true) c.no_tables.ensures

pub step-requires : goal.step-requires
step-requires c = (checked _ (sym c.requires ∙ c.if-not-good.false)).0

pub returns : goal.returns
returns c =
    stepped (sym c.requires ∙ c.if-not-good.false) c.step.ensures
