-- `devices::devices_right` meets its contract. The loop: no device of those passed has two, and the marks say which have one.
use Rattle.std.proofs.Common.{◌≡◌, ◌++◌, ℕ}
use Rattle.rules.specs.Lists.{any}
use Rattle.rules.specs.Interrupt.{held_for}
use Rattle.store.specs.Store.{tables}
use Rattle.ranging.proofs.Waiters.{Waited}
use Rattle.ranging.proofs.devices.devices_right.Given as goal

abbrev pub invariant-loop-t : goal.invariant-loop-t
invariant-loop-t l = Waited (λ (d : ℕ). any (held_for d) (tables l.m).held) l.marks l.yielded
    × (l.yielded ++ l.t-iterator ≡ (tables l.m).threads)
