-- `moves::deliver` meets its contract: a receiver that waits is woken, and has room in the ready queue; else the message is queued.
use Rattle.std.proofs.Common.{sym, ap, ◌∙◌}
use Rattle.rules.specs.Waking.{wake}
use Rattle.laws.specs.Words.{Answer}
use Rattle.laws.proofs.Single.{deliver_wakes, deliver_queues}
use Rattle.store.specs.Store.{tables}
use Rattle.handling.proofs.Leaving.{in_words}
use Rattle.handling.proofs.Moving.{awaited_room}
use Rattle.handling.proofs.moves.deliver.Goals as goal

pub wake-requires : goal.wake-requires
wake-requires c = (
  c.requires.0.holding,
  awaited_room (tables c.args.m.now) c.requires.0.inv c.args.x
      (sym c.is_awaited.ensures ∙ c.if-is_awaited.true),
)

pub returns-then-is_awaited : goal.returns-then-is_awaited
returns-then-is_awaited c =
    let T = tables c.args.m.now in
    in_words
    (ap (λ (a : Answer). wake c.args.x.to a T) c.handed.ensures
    ∙ sym (deliver_wakes T c.requires.0.holding.once c.args.x
    (sym c.is_awaited.ensures ∙ c.if-is_awaited.true)))
    c.wake.ensures

pub returns-else-is_awaited : goal.returns-else-is_awaited
returns-else-is_awaited c =
    in_words
    (sym (deliver_queues (tables c.args.m.now) c.args.x (sym c.is_awaited.ensures
    ∙ c.if-is_awaited.false)))
    c.queue.ensures
