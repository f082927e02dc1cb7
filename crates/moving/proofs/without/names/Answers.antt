-- `moving::without::names` meets its contract.
use Rattle.std.proofs.Common.{◌∙◌}
use Rattle.rules.specs.Lists.{has as has_in}
use Rattle.memory.specs.Memory.{rows_of}
use Rattle.memory.specs.Rows.{members}
use Rattle.moving.proofs.Sets.{whole_set}
use Rattle.moving.proofs.without.names.Goals as goal

pub returns : goal.returns
returns g c =
    let r = rows_of c.args.m.now in
    c.sift.ensures (λ x. has_in x (members r)) (λ x b p. p (members r) c.requires.3 ∙ whole_set r _ x c.ends-n.ensures)
