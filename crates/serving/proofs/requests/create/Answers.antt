-- `requests::create` meets its contract: a thread of a name that nobody has, at the tail of the ready queue.
use mathlib.Core.Path.{refl}
use Rattle.serving.proofs.Asking.{newcomer_free, newcomer_room, created}
use Rattle.serving.proofs.requests.create.Goals as goal

pub add_thread-requires : goal.add_thread-requires
add_thread-requires c = (
  c.requires.0.holding,
  c.requires.2,
  newcomer_free _ _ _ c.next_name-name.ensures c.new_thread.ensures c.requires.0
      c.requires.1,
)

pub join_ready-requires : goal.join_ready-requires
join_ready-requires c = (
  c.add_thread.ensures.holding,
  newcomer_room c.requires.0 c.requires.2
      c.add_thread.ensures refl,
)

pub returns : goal.returns
returns c = rw c.from.ensures (
    created _ _ _
    c.next_name-name.ensures
    c.new_thread.ensures
    c.add_thread.ensures
    c.join_ready.ensures c.set_last.ensures)
