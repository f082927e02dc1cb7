-- `gauge_dump` is safe: the memory that a run leaves stands, with the limits that it was started with.
use mathlib.Core.Path.{◌∙◌}
use Rattle.lending.proofs.Standing.{checked, passes}
use native.Mathlib.Omega.{arith}
use Rattle.gauge.proofs.gauge_dump.Goals as goal

pub run_in-requires : goal.run_in-requires
run_in-requires c = (checked _ c.start_in.ensures.valid).0

pub writes-requires : goal.writes-requires
writes-requires c = let r = c.run_in.ensures in
    (passes _ r.0 (r.1 ∙ (checked _ c.start_in.ensures.valid).1), omega arith)
