-- `gauge_check` is safe: a started memory stands; the check asks nothing.
use Rattle.lending.proofs.Standing.{checked}
use Rattle.gauge.proofs.gauge_check.Goals as goal

pub run_in-requires : goal.run_in-requires
run_in-requires c = (checked _ c.start_in.ensures.valid).0
