-- `moving::members::is_member` meets its contract.
use Prim.Native.Nat.{ℕ}
use mathlib.Core.Path.{ap, ◌∙◌}
use lib.ListN.{take}
use Rattle.rules.specs.Lists.{has as has_in}
use Rattle.memory.specs.Memory.{rows_of}
use lib.Seq.{take-take}
use native.Mathlib.Omega.{arith}
use Rattle.memory.specs.Rows.{members}
use Rattle.moving.proofs.members.is_member.Goals as goal

pub has-requires : goal.has-requires
has-requires c = omega (arith, c.requires.0.low, c.requires.1, c.ends-n.ensures)

pub returns : goal.returns
returns c = c.has.ensures (members (rows_of c.args.m.now)) c.requires.2
    ∙ (ap (λ (k : ℕ). has_in c.args.name (take k (members (rows_of c.args.m.now))))
    c.ends-n.ensures ∙ ap (has_in c.args.name)
    (take-take (rows_of c.args.m.now).ends (rows_of c.args.m.now).ends
    (rows_of c.args.m.now).ended (omega arith)))
