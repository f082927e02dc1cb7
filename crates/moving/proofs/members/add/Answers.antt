-- `moving::members::add` meets its contract.
use Prim.Native.Nat.{ℕ, ◌+◌}
use mathlib.Core.Path.{ap, ◌∙◌, sym}
use native.Mathlib.Omega.{arith}
use lib.ListN.{set}
use Rattle.memory.specs.Memory.{rows_of}
use Rattle.memory.specs.Rows.{Roomy, put_ends, put_ended, members}
use Rattle.moving.proofs.Steps.{by}
use Rattle.memory.proofs.Sizes.{ended_long}
use lib.Seq.{length-take-le}
use Rattle.moving.proofs.Loops.{wrote}
use Rattle.moving.proofs.Marking.{marks_of}
use Rattle.moving.proofs.members.add.Goals as goal

pub mark-requires : goal.mark-requires
mark-requires c =
    omega (arith, c.requires.0.low, c.requires.1, c.ends-n.ensures)

pub set_ends-requires : goal.set_ends-requires
set_ends-requires c = (
  by Roomy c.put_ended.ensures
      c.requires.0,
  omega (
    arith,
    c.requires.0.low,
    c.requires.1,
    c.ends-n.ensures,
  ),
)

pub returns : goal.returns
returns c = let e = c.set_ends.ensures
    ∙ (ap (put_ends _) c.put_ended.ensures
    ∙ ap (λ (k : ℕ). put_ends (k + 1)
    (put_ended
    (set (rows_of
    c.args.m.now).ended k
    c.args.name)
    (rows_of c.args.m.now)))
    c.ends-n.ensures) in (
      e,
      marks_of (ap members e
          ∙ wrote (rows_of
          c.args.m.now).ended
          (rows_of c.args.m.now
          ).ends c.args.name
          (omega (
            arith,
            ended_long
                c.args.m.now,
            c.requires.1,
          ))) (c.mark.ensures
          (members (rows_of
          c.args.m.now))
          (length-take-le
          (rows_of c.args.m.now
          ).ends (rows_of
          c.args.m.now).ended
          (omega (
            arith,
            ended_long
                c.args.m.now,
            c.requires.1,
          )) ∙ sym c.ends-n.ensures)
          c.requires.2),
    )
