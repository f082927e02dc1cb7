-- `send::decide` meets its contract: the decision 0 wakes the one trapped thread, another ends it.
use Rattle.store.specs.Store.{tables}
use Rattle.handling.proofs.Leaving.{in_words}
use Rattle.serving.proofs.Sending.{decided_live, decided_room, decided_on, decided_over}
use Rattle.serving.proofs.send.decide.Goals as goal

pub wake-requires : goal.wake-requires
wake-requires c =
    decided_room c.requires.0 c.args.me c.args.to c.requires.1 _ c.discard_notice.ensures

pub end-requires : goal.end-requires
end-requires c =
    (c.requires.0, decided_live c.requires.0 c.args.me c.args.to c.requires.1)

pub returns-then-word-eq0 : goal.returns-then-word-eq0
returns-then-word-eq0 c =
    decided_on c.requires.0 c.args.me c.args.to c.requires.1 c.args.word
    c.if-word-eq0.true
    c.discard_notice.ensures c.wake.ensures

pub returns-else-word-eq0 : goal.returns-else-word-eq0
returns-else-word-eq0 c =
    in_words (decided_over (tables c.args.m.now) c.args.me c.args.to c.args.word
    c.if-word-eq0.false) c.end.ensures
