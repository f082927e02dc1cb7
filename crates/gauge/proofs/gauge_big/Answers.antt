-- `gauge_big` is safe: a started memory stands, at any limits.
use Rattle.laws.proofs.Kept.{start_ruled}
use native.Mathlib.Omega.{arith}
use Rattle.gauge.proofs.gauge_big.Goals as goal

pub run_in-requires : goal.run_in-requires
run_in-requires c = let s = c.start.ensures in
    record { holding = s.2; ruled = rw (s.1, s.0) (start_ruled (record { threads = 64; blocks = 128 }) (omega arith)) }
