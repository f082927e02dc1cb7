-- `memory::memory::clear` meets its contract.
use mathlib.Core.Path.{ap, ◌∙◌}
use mathlib.Core.List.{[]}
use native.Mathlib.Omega.{arith}
use lib.ListN.{length-set}
use Rattle.memory.specs.Rows.{put_held}
use Rattle.memory.proofs.Fields.{still_roomy}
use Rattle.memory.proofs.Clears.{anew_long, anew_roomy, anew_nothing}
use Rattle.memory.proofs.memory.clear.Goals as goal

pub bounds-m-1 : goal.bounds-m-1
bounds-m-1 c = simp length-set (omega arith)

pub bounds-m-2 : goal.bounds-m-2
bounds-m-2 c = simp length-set (omega arith)

pub bounds-m-5 : goal.bounds-m-5
bounds-m-5 c = simp length-set (omega arith)

pub bounds-m-6 : goal.bounds-m-6
bounds-m-6 c = simp length-set (omega arith)

pub bounds-m-7 : goal.bounds-m-7
bounds-m-7 c = simp length-set (omega arith)

pub bounds-m-8 : goal.bounds-m-8
bounds-m-8 c = simp length-set (omega arith)

pub bounds-m-9 : goal.bounds-m-9
bounds-m-9 c = simp length-set (omega arith)

pub bounds-m-10 : goal.bounds-m-10
bounds-m-10 c = simp length-set (omega arith)

pub set_runner-requires : goal.set_runner-requires
set_runner-requires c = anew_roomy c.args.m.now c.args.l.threads c.args.l.blocks (omega arith) c.requires

pub clear_all_held-requires : goal.clear_all_held-requires
clear_all_held-requires c = still_roomy c.set_runner.ensures
    (anew_roomy c.args.m.now c.args.l.threads c.args.l.blocks (omega arith) c.requires)

pub shape_of-m : goal.shape_of-m
shape_of-m c = c.m-2-1.given ∙ c.m-1.given
    ∙ anew_long c.args.m.now c.args.l.threads c.args.l.blocks (omega arith)

pub returns : goal.returns
returns c = anew_nothing c.args.m.now c.args.l.threads c.args.l.blocks (omega arith) _ (c.clear_all_held.ensures
    ∙ ap (put_held []) c.set_runner.ensures)
