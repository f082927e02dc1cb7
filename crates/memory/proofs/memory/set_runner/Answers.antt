-- `memory::memory::set_runner` meets its contract.
use native.Mathlib.Omega.{arith}
use lib.ListN.{length-set}
use Rattle.memory.specs.Memory.{rows_of}
use Rattle.memory.proofs.Changes.{runner_put}
use Rattle.memory.proofs.memory.set_runner.Goals as goal

pub bounds-m-3 : goal.bounds-m-3
unfolding rows_of
bounds-m-3 c = omega arith

pub bounds-m-4 : goal.bounds-m-4
unfolding rows_of
bounds-m-4 c = simp length-set (omega arith)

pub returns : goal.returns
unfolding rows_of
returns c = runner_put c.args.m.now c.runner_words-name.result.0 c.runner_words-name.result.1 c.args.r (omega arith)
    c.runner_words-name.ensures
