-- `moves::wake` meets its contract: the thread is turned, and its name joins the tail.
use Rattle.handling.proofs.Moving.{turned_room, woken}
use Rattle.handling.proofs.moves.wake.Goals as goal

pub join_ready-requires : goal.join_ready-requires
join_ready-requires c =
    turned_room _ _ c.turn.ensures c.requires.1

pub returns : goal.returns
returns c = woken _ _ c.turn.ensures c.join_ready.ensures
