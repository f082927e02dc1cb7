-- `moving::members::begin` meets its contract.
use native.Mathlib.Omega.{arith}
use Rattle.memory.specs.Rows.{Roomy}
use Rattle.memory.proofs.Sizes.{ended_long}
use Rattle.moving.proofs.Steps.{by}
use Rattle.moving.proofs.Sets.{begun}
use mathlib.Core.Path.{refl}
use mathlib.Core.List.{[]}
use Rattle.moving.proofs.members.begin.Goals as goal

pub mark-requires : goal.mark-requires
mark-requires c = omega arith

pub set_ends-requires : goal.set_ends-requires
set_ends-requires c = (
  by Roomy c.put_ended.ensures
      c.requires.0,
  omega arith,
)

pub returns : goal.returns
returns c = (
  begun (ended_long c.args.m.now)
      c.requires.1
      c.put_ended.ensures c.set_ends.ensures,
  c.mark.ensures [] refl
      c.requires.2,
)
