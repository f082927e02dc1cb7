-- `ended::grow_ended` meets its contract.
use Rattle.std.proofs.Common.{arith}
use Rattle.store.specs.Store.{limits, tables, Shaped, found}
use Rattle.memory.proofs.Sizes.{members_count}
use Rattle.store.proofs.Written.{found_are}
use Rattle.store.proofs.ended.grow_ended.Goals as goal

pub grow-requires : goal.grow-requires
unfolding limits tables Shaped found
grow-requires c = (
  c.requires.0.holding.shaped.roomy,
  c.requires.0.holding.shaped.threads,
  omega (
    arith,
    c.requires.1,
    members_count c.args.m.now
        c.requires.0.low,
  ),
  c.requires.2,
)

pub returns : goal.returns
unfolding tables found
returns c = (
  found_are c.requires.0.holding c.grow.ensures.0,
  c.grow.ensures.1,
)
