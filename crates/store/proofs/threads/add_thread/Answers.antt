-- `threads::add_thread` meets its contract: nobody has the newcomer's name, so at its place the names rise still.
use Rattle.std.proofs.Common.{arith}
use Rattle.store.specs.Store.{limits}
use Rattle.store.proofs.Searched.{threads_length, place_inside, came_in, roomy}
use Rattle.store.proofs.threads.add_thread.Goals as goal

pub open_gap-requires : goal.open_gap-requires
unfolding limits
open_gap-requires c = (
  roomy c.args.m.now c.requires.0.shaped,
  place_inside c.args.m.now c.requires.0 c.args.t _
      c.find_place-at.ensures,
  omega (arith, c.requires.1, threads_length c.args.m.now c.requires.0.shaped),
)

pub returns : goal.returns
returns c =
    came_in c.args.m.now c.requires.0 c.args.t _ c.find_place-at.ensures c.requires.2
    c.open_gap.ensures
