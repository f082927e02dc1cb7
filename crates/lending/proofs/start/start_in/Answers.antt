-- `start::start_in` meets its contract: the start of small limits.
use Rattle.lending.proofs.Standing.{started}
use Rattle.lending.proofs.start.start_in.Goals as goal

pub returns : goal.returns
returns c = let s = c.start.ensures in started s.0 s.1 s.2
