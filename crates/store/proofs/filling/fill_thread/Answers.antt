-- `filling::fill_thread` meets its contract.
use Rattle.std.proofs.Common.{arith}
use Rattle.store.specs.Store.{limits}
use Rattle.store.proofs.Searched.{threads_length, roomy}
use Rattle.store.proofs.Filled.{thread_behind}
use Rattle.store.proofs.filling.fill_thread.Goals as goal

pub put_thread-requires : goal.put_thread-requires
unfolding limits
put_thread-requires c =
    (roomy c.args.m.now c.requires.0, omega (arith, c.count-n.ensures, c.requires.1, threads_length c.args.m.now c.requires.0))

pub returns : goal.returns
unfolding limits
returns c =
    thread_behind _ c.requires.0 c.count-n.result c.args.t c.count-n.ensures
    (omega (arith, c.count-n.ensures, c.requires.1, threads_length c.args.m.now c.requires.0)) c.put_thread.ensures
    c.set_count.ensures
