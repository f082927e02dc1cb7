-- `start::start` meets its contract: the first thread is put in, and runs.
use Rattle.stepping.proofs.Stepping.{first_fits, started}
use Rattle.stepping.proofs.start.start.Goals as goal

pub add_thread-requires : goal.add_thread-requires
add_thread-requires c =
    first_fits _ _ c.clear.ensures c.requires.1 _

pub returns : goal.returns
returns c =
    started _ c.clear.ensures c.new_thread.ensures c.add_thread.ensures
    c.set_runner.ensures
