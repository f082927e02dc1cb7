-- `memory::memory::set_manager` meets its contract.
use Prim.Native.Nat.{ℕ, ◌+◌}
use mathlib.Core.Path.{ap, ◌∙◌}
use native.Mathlib.Omega.{arith}
use lib.ListN.{set}
use Rattle.memory.specs.Memory.{rows_of}
use Rattle.memory.specs.Layout.{thread_place}
use Rattle.memory.proofs.Fields.{manager_store, manager_low}
use Rattle.memory.proofs.memory.set_manager.Goals as goal

pub overflow_add-at-2 : goal.overflow_add-at-2
overflow_add-at-2 c = omega (arith, c.manager_word.ensures, manager_low c.args.k)

pub offset_bounds-m-at : goal.offset_bounds-m-at
offset_bounds-m-at c = omega (arith, c.manager_word.ensures, manager_low c.args.k)

pub bounds-m-at : goal.bounds-m-at
unfolding rows_of
bounds-m-at c = omega (arith, c.manager_word.ensures, manager_low c.args.k)

pub returns : goal.returns
unfolding rows_of
returns c = ap (λ (x : ℕ). rows_of (set c.args.m.now (thread_place c.args.i + x) c.manager_word-2.result))
    c.manager_word.ensures
    ∙ manager_store c.args.m.now c.args.i c.requires.1 c.args.k c.args.g c.manager_word-2.result (omega arith)
    c.manager_word-2.ensures
