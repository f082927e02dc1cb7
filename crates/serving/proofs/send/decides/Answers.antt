-- `send::decides` meets its contract: the receiver is asked.
use mathlib.Core.Path.{◌∙◌}
use Rattle.store.specs.Store.{tables}
use Rattle.serving.proofs.Sending.{decides_by}
use Rattle.serving.proofs.send.decides.Goals as goal

pub returns : goal.returns
returns c =
    c.trapped_on.ensures ∙ decides_by (tables c.args.m.now) c.requires.once c.args.me c.args.to
