-- `filling::fill_message` meets its contract.
use Rattle.std.proofs.Common.{arith}
use Rattle.store.specs.Store.{limits}
use Rattle.store.proofs.Searched.{messages_length, roomy}
use Rattle.store.proofs.Filled.{message_behind}
use Rattle.store.proofs.filling.fill_message.Goals as goal

pub put_message-requires : goal.put_message-requires
unfolding limits
put_message-requires c = (
  roomy c.args.m.now c.requires.0,
  omega (arith, c.letters-n.ensures, c.requires.1, messages_length c.args.m.now c.requires.0),
)

pub returns : goal.returns
unfolding limits
returns c =
    message_behind _ c.requires.0 c.letters-n.result c.args.x c.letters-n.ensures
    (omega (arith, c.letters-n.ensures, c.requires.1, messages_length c.args.m.now c.requires.0))
    c.put_message.ensures c.set_letters.ensures
