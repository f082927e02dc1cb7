-- `inboxes::queue` meets its contract.
use Rattle.std.proofs.Common.{arith}
use Rattle.store.specs.Store.{limits}
use Rattle.store.proofs.Searched.{messages_length, roomy}
use Rattle.store.proofs.Letters.{end_inside, queued}
use Rattle.store.proofs.inboxes.queue.Goals as goal

pub open_gap-requires : goal.open_gap-requires
unfolding limits
open_gap-requires c = (
  roomy c.args.m.now c.requires.0.shaped,
  end_inside c.args.m.now c.requires.0 c.args.x _ c.seek_end-at.ensures,
  omega (arith, c.requires.1, messages_length c.args.m.now c.requires.0.shaped),
)

pub returns : goal.returns
returns c =
    queued c.args.m.now c.requires.0 c.args.x _ c.seek_end-at.ensures c.open_gap.ensures
