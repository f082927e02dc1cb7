-- `moving::members::lose_managers` meets its contract. Three entries are all that a thread has.
use native.Mathlib.Omega.{arith}
use Rattle.memory.specs.Memory.{rows_of}
use Rattle.memory.proofs.Sizes.{threads_long}
use Rattle.moving.proofs.Steps.{by}
use Rattle.moving.proofs.Sets.{ListedAt, lose_all}
use Rattle.moving.proofs.members.lose_managers.Goals as goal

pub lose-requires-2 : goal.lose-requires-2
lose-requires-2 c = by (ListedAt c.args.marks.now
    c.args.i) c.lose.ensures
    c.requires

pub lose-requires-3 : goal.lose-requires-3
lose-requires-3 c = by (ListedAt c.args.marks.now
    c.args.i)
    c.lose-2.ensures
    (by (ListedAt c.args.marks.now
    c.args.i)
    c.lose.ensures
    c.requires)

pub returns : goal.returns
returns c = lose_all c.args.i
    (rows_of c.args.m.now)
    (omega (
      arith,
      threads_long
          c.args.m.now,
      c.requires.2,
    )) c.lose.ensures
    c.lose-2.ensures c.lose-3.ensures
