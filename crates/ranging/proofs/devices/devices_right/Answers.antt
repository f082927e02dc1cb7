-- `devices::devices_right` meets its contract. The loop: no device of those passed has two, and the marks say which have one.
use Rattle.std.proofs.Common.{◌≡◌, ◌+◌, ◌≤◌, ℕ, List, Some, false, sym, ap, subst, ◌∙◌, get_or}
use Rattle.std.specs.Option.{is_some}
use Rattle.rules.specs.Lists.{any, one_if, count}
use Rattle.rules.specs.Interrupt.{held_for}
use Rattle.rules.specs.States.{waits_for}
use Rattle.laws.specs.Words.{State, Thread}
use Rattle.store.specs.Store.{tables}
use Rattle.indexing.proofs.Marking.{walk_here, walk_next, walk_ends}
use Rattle.ranging.proofs.Waiters.{device_of, held_given, wait_starts, wait_skips, wait_next, wait_fails, wait_held, broken, kept, one_there}
use Rattle.ranging.proofs.devices.devices_right.Goals.{then-is_some-via-then-is_some, then-is_some-via-else-is_some+then-marks-from}
use Rattle.ranging.proofs.devices.devices_right.Goals as goal

pub loop-t-init : goal.loop-t-init
unfolding tables
loop-t-init c = (wait_starts _, c.into_iter-t-iterator.ensures.into_iter_gives ∙ c.threads-t-items.ensures)

pub loop-t-preserved-in_default : goal.loop-t-preserved-in_default
loop-t-preserved-in_default c = (
  wait_skips _ _ _ _ c.loop-t.invariant.0
      (ap (λ (s : State). device_of s) (sym c.state.ensures) ∙ sym c.device_of.ensures ∙ c.in_default.is),
  walk_next _ c.loop-t.invariant.1 _ _ c.in-Some.ensures.steps,
)

pub returns-then-is_some : goal.returns-then-is_some
unfolding tables
returns-then-is_some c =
    let T = tables c.args.m.now in
    let d = c.in-Some-device_of.d in
    let one : device_of c.in-Some.t.state ≡ Some d =
    ap (λ (s : State). device_of s) (sym c.state.ensures) ∙ sym c.device_of.ensures ∙ c.in-Some-device_of.is in
    let split = walk_here _ c.loop-t.invariant.1 _ _ c.in-Some.ensures.steps in
    broken T d (one_there c.in-Some.t.state d one).0 (elim c.then-is_some.branch [
      | then-is_some-via-then-is_some w ↦ wait_held _ _ _ _ c.loop-t.invariant.0 d one _ _ split
          (sym (held_given d T.held) ∙ ap is_some (sym c.held.ensures) ∙ sym c.is_some.ensures ∙ w.if-is_some.true)
      | then-is_some-via-else-is_some+then-marks-from w ↦ wait_fails _ _ _ _ c.loop-t.invariant.0 d one _ _ split
          (ap (λ (k : ℕ). get_or c.loop-t.marks k false) (sym w.from.ensures) ∙ w.if-marks-from.true)
    ])

pub loop-t-preserved : goal.loop-t-preserved
unfolding tables
loop-t-preserved c = let d = c.in-Some-device_of.d in (
  rw c.from-in-loop-t.ensures (wait_next _ _ _ _ c.loop-t.invariant.0 d
      (ap (λ (s : State). device_of s) (sym c.state.ensures) ∙ sym c.device_of.ensures ∙ c.in-Some-device_of.is)
      (sym (held_given d (tables c.args.m.now).held) ∙ ap is_some (sym c.held.ensures) ∙ sym c.is_some.ensures ∙ c.if-is_some.false)
      (ap (λ (k : ℕ). get_or c.loop-t.marks k false) (sym c.from.ensures) ∙ c.if-marks-from.false)),
  walk_next _ c.loop-t.invariant.1 _ _ c.in-Some.ensures.steps,
)

pub returns : goal.returns
unfolding tables
returns c = kept (tables c.args.m.now) c.requires.1
    (λ d l. subst (λ (ts : List Thread). one_if (any (held_for d) (tables c.args.m.now).held) + count (waits_for d) ts ≤ 1)
    (walk_ends _ c.loop-t.invariant.1 c.in-None.ensures.steps.0) (c.loop-t.invariant.0.free d l))
