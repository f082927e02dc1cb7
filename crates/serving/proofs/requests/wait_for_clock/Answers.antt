-- `requests::wait_for_clock` meets its contract: the runner stops and joins the clock queue.
use Rattle.serving.proofs.Asking.{clock_room, clocked}
use Rattle.serving.proofs.requests.wait_for_clock.Goals as goal

pub join_clock-requires : goal.join_clock-requires
join_clock-requires c = (
  c.stop.ensures.holding,
  clock_room _ c.stop.ensures
      c.requires.1,
)

pub returns : goal.returns
returns c = clocked _ c.stop.ensures c.join_clock.ensures
