-- `ranges::orders_right` meets its contract: held words rise by themselves where each is held for a device.
use Rattle.std.proofs.Common.{sym, ◌∙◌}
use Rattle.laws.proofs.Tests.{and_true}
use Rattle.store.specs.Store.{tables}
use Rattle.ranging.proofs.Rising.{held_rises}
use Rattle.ranging.proofs.Waiters.{ranged}
use Rattle.ranging.proofs.ranges.orders_right.Goals as goal

pub returns : goal.returns
unfolding tables
returns c = rw (held_rises c.args.m.now
    (ranged (tables c.args.m.now) c.requires.1)) (c.messages_rise.ensures ∙ sym (and_true _))
