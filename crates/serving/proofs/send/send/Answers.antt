-- `send::send` meets its contract: a decision, or a message that is delivered.
use Rattle.std.proofs.Common.{refl, sym, ◌∙◌}
use Rattle.store.specs.Store.{tables}
use Rattle.handling.proofs.Leaving.{in_words}
use Rattle.serving.proofs.Sending.{sent_decides, sent_delivers}
use Rattle.serving.proofs.send.send.Goals as goal

pub returns-then-decides : goal.returns-then-decides
returns-then-decides c =
    in_words (sent_decides (tables c.args.m.now) c.args.me c.args.to c.args.word
    (sym c.decides.ensures ∙ c.if-decides.true))
    c.decide.ensures

pub returns-else-decides : goal.returns-else-decides
returns-else-decides c =
    in_words (sent_delivers (tables c.args.m.now) c.args.me c.args.to c.args.word _
    refl (sym c.decides.ensures
    ∙ c.if-decides.false)) c.deliver.ensures
