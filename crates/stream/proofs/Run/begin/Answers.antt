-- `begin` meets its contract: a started memory stands.
use mathlib.Core.Path.{refl}
use Rattle.lending.proofs.Standing.{checked}
use Rattle.stream.proofs.Run.begin.Goals as goal

pub returns : goal.returns
returns c =
    let started = c.start_in.ensures in
    let held = checked _ started.valid in
    record { standing = record { at_rest = held.0; small = held.1 }; says = started.says; first = refl }
