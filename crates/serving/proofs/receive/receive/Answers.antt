-- `receive::receive` meets its contract: the message found is handed over, or the runner waits.
use Rattle.serving.proofs.Sending.{taken_hands, missing_waits}
use Rattle.serving.proofs.receive.receive.Goals as goal

pub returns-in-Some : goal.returns-in-Some
returns-in-Some c =
    taken_hands c.args.me c.args.w c.take_message.ensures _
    c.in-Some.is _ c.handed.ensures

pub returns-in_default : goal.returns-in_default
returns-in_default c =
    missing_waits c.args.me c.args.w c.take_message.ensures
    c.in_default.is c.stop.ensures
