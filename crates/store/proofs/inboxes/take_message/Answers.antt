-- `inboxes::take_message` meets its contract.
use Rattle.std.proofs.Common.{refl}
use Rattle.rules.specs.Receive.{wanted_by}
use Rattle.store.proofs.Letters.{taken, nothing_taken, oldest_at, oldest_none}
use Rattle.store.proofs.inboxes.take_message.Goals as goal

pub returns-in-Some : goal.returns-in-Some
returns-in-Some c =
    let h = oldest_at c.args.m.now c.requires (wanted_by c.args.me c.args.w) c.seek_wanted.ensures c.in-Some.is in
    taken c.args.m.now c.requires (wanted_by c.args.me c.args.w) _ h.0 _ h.1 c.message_at-x.ensures
    c.close_gap.ensures

pub returns-in_default : goal.returns-in_default
returns-in_default c =
    nothing_taken c.args.m.now c.requires (wanted_by c.args.me c.args.w) _ refl
    (oldest_none c.args.m.now c.requires (wanted_by c.args.me c.args.w) c.seek_wanted.ensures c.in_default.not-Some)
