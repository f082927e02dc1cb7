-- `inboxes::message_count` meets its contract.
use Rattle.std.proofs.Common.{◌∙◌}
use Rattle.store.proofs.Searched.{messages_length}
use Rattle.store.proofs.inboxes.message_count.Goals as goal

pub returns : goal.returns
returns c = c.letters.ensures ∙ messages_length c.args.m.now c.requires
