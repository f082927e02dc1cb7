-- `moving::without::messages` meets its contract.
use Rattle.std.proofs.Common.{◌||◌, ap₂, ◌∙◌}
use Rattle.rules.specs.Lists.{has as has_in}
use Rattle.memory.specs.Memory.{rows_of}
use Rattle.memory.specs.Rows.{members}
use Rattle.moving.proofs.Sets.{whole_set}
use Rattle.moving.proofs.without.messages.Goals as goal

pub returns : goal.returns
returns c =
    let r = rows_of c.args.m.now in
    let R = c.sift.ensures (λ x. has_in x.to (members r) || has_in x.from (members r))
    (λ x b p. p (members r) c.requires.3 ∙ ap₂ ◌||◌ (whole_set r _ x.to c.ends-n.ensures) (whole_set r _ x.from c.ends-n.ensures)) in
    record { only = R.only; says = R.says; fits = R.fits }
