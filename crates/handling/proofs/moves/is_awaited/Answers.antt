-- `moves::is_awaited` meets its contract: the receiver is asked.
use Rattle.std.proofs.Common.{◌∙◌}
use Rattle.store.specs.Store.{tables}
use Rattle.handling.proofs.Moving.{awaited}
use Rattle.handling.proofs.moves.is_awaited.Goals as goal

pub returns : goal.returns
returns c =
    c.receives_from.ensures ∙ awaited (tables c.args.m.now) c.requires.once c.args.x
