-- `filling::fill_ready` meets its contract.
use Rattle.std.proofs.Common.{arith}
use Rattle.store.specs.Store.{limits}
use Rattle.store.proofs.Searched.{ready_length, roomy}
use Rattle.store.proofs.filling.fill_ready.Goals as goal

pub join_ready-requires : goal.join_ready-requires
unfolding limits
join_ready-requires c =
    (roomy c.args.m.now c.requires.0, omega (arith, c.requires.1, ready_length c.args.m.now c.requires.0))
