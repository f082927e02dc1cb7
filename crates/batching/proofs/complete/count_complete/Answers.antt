-- `complete::count_complete` meets its contract: the field that the reader gives is one more.
use Rattle.std.proofs.Common.{◌∙◌}
use Rattle.batching.proofs.FieldCount.{next_counted, none_left_counted}
use Rattle.batching.proofs.complete.count_complete.Goals as goal

pub loop-field-preserved : goal.loop-field-preserved
loop-field-preserved c = next_counted c.loop-field.invariant.0 _ _ (c.loop-field.invariant.1 ∙ c.in-Some.ensures.steps)

pub returns : goal.returns
returns c = none_left_counted c.loop-field.invariant.0 (c.loop-field.invariant.1 ∙ c.in-None.ensures.steps.0)
