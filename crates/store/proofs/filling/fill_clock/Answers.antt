-- `filling::fill_clock` meets its contract.
use Rattle.std.proofs.Common.{arith}
use Rattle.store.specs.Store.{limits}
use Rattle.store.proofs.Searched.{clock_length, roomy}
use Rattle.store.proofs.filling.fill_clock.Goals as goal

pub join_clock-requires : goal.join_clock-requires
unfolding limits
join_clock-requires c =
    (roomy c.args.m.now c.requires.0, omega (arith, c.requires.1, clock_length c.args.m.now c.requires.0))
