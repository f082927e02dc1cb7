-- `moving::members::lose` meets its contract.
use mathlib.Core.Path.{sym, ◌∙◌}
use Rattle.moving.proofs.Sets.{is_gone, lose_none}
use native.Mathlib.Omega.{arith}
use lib.Seq.{take-take}
use Rattle.memory.specs.Memory.{rows_of}
use Rattle.memory.specs.Rows.{members}
use Rattle.moving.proofs.members.lose.Goals as goal

pub is_managed-requires : goal.is_managed-requires
is_managed-requires c = omega (
  arith,
  c.requires.0.low,
  c.requires.1,
  c.ends-n.ensures,
)

pub returns-then-is_managed : goal.returns-then-is_managed
returns-then-is_managed c =
    rw (is_gone _ _
    (sym (rw (
      c.ends-n.ensures,
      c.manager.ensures,
      c.record.ensures,
      take-take (rows_of c.args.m.now).ends
          (rows_of c.args.m.now).ends
          (rows_of c.args.m.now).ended
          (omega arith),
    ) at (c.is_managed.ensures
    (members (rows_of c.args.m.now))
    c.requires.3))
    ∙ c.if-is_managed.true)) c.set_manager.ensures

pub returns-else-is_managed : goal.returns-else-is_managed
returns-else-is_managed c =
    lose_none _ _ _
    (sym (rw (
      c.ends-n.ensures,
      c.manager.ensures,
      c.record.ensures,
      take-take (rows_of c.args.m.now).ends
          (rows_of c.args.m.now).ends
          (rows_of c.args.m.now).ended (omega arith),
    ) at (c.is_managed.ensures (members (rows_of c.args.m.now))
    c.requires.3)) ∙ c.if-is_managed.false)
