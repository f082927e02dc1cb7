-- `moves::stop` meets its contract: the thread is turned, and nobody runs.
use Rattle.handling.proofs.Moving.{stopped}
use Rattle.handling.proofs.moves.stop.Goals as goal

pub returns : goal.returns
returns c = stopped _ _ c.turn.ensures c.set_runner.ensures
