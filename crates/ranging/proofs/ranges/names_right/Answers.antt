-- `ranges::names_right` meets its contract: there are no more threads than the limit, since the memory is shaped right.
use Rattle.std.proofs.Common.{sym, ◌∙◌}
use Rattle.laws.proofs.Tests.{and_true}
use Rattle.indexing.proofs.Passing.{names_within}
use Rattle.ranging.proofs.ranges.names_right.Goals as goal

pub returns-then-names_rise : goal.returns-then-names_rise
returns-then-names_rise c = rw (
  sym c.names_rise.ensures
      ∙ c.if-names_rise.true,
  names_within c.args.m.now c.requires,
) (c.names_low.ensures ∙ sym (and_true _))
