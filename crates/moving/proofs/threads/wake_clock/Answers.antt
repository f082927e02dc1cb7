-- `moving::threads::wake_clock` meets its contract. The loop: what is written, and the rest as it is to become, are all threads as they
-- are to become.
use mathlib.Core.Path.{refl, sym, ap, ◌∙◌}
use native.Mathlib.Omega.{arith}
use Rattle.memory.specs.Rows.{Rows, no_thread}
use Rattle.memory.proofs.Sizes.{threads_long, same_room}
use Rattle.moving.proofs.Loops.{turn_starts, turn_next, turn_by, turn_ends}
use Rattle.moving.proofs.Steps.{by, Within, the_threads, begins, writes, stays, threads_are}
use Rattle.rules.specs.States.{on_clock}
use Rattle.laws.specs.Words.{Thread}
use Rattle.moving.proofs.threads.wake_clock.Goals as goal

pub loop-i-init : goal.loop-i-init
loop-i-init c = begins the_threads
    (turn_starts _ _ _ _
    (omega (arith, c.count-i-end.ensures, c.requires.1, threads_long c.args.m.now)))

pub record-requires : goal.record-requires
record-requires c = by (Within _) c.loop-i.invariant.only (
  c.requires.0,
  omega (
    arith,
    c.requires.1,
    c.count-i-end.ensures,
    c.loop-i-test.true,
  ),
)

pub turn-requires : goal.turn-requires
turn-requires c = by (Within _) c.loop-i.invariant.only (
  c.requires.0,
  omega (
    arith,
    c.requires.1,
    c.count-i-end.ensures,
    c.loop-i-test.true,
  ),
)

pub loop-i-preserved : goal.loop-i-preserved
loop-i-preserved c = writes the_threads _ c.loop-i.invariant
    c.turn.ensures
    (turn_next _ _ _ _ _ _ _ no_thread c.loop-i.invariant.so
    (omega (arith, c.count-i-end.ensures, c.loop-i-test.true))
    (sym (c.on_clock.ensures ∙ ap (λ (t : Thread). on_clock t.state) c.record.ensures) ∙ c.if-not-on_clock.false) refl)

pub loop-i-preserved-then-not-on_clock : goal.loop-i-preserved-then-not-on_clock
loop-i-preserved-then-not-on_clock c = stays the_threads c.loop-i.invariant
    (turn_by _ _ _ _ _ _ no_thread c.loop-i.invariant.so (omega (arith, c.count-i-end.ensures, c.loop-i-test.true))
    (sym (c.on_clock.ensures ∙ ap (λ (t : Thread). on_clock t.state) c.record.ensures) ∙ c.if-not-on_clock.true))

pub shape_of-m : goal.shape_of-m
shape_of-m c =
    same_room c.args.m.now _ (ap (λ (r : Rows). r.room) c.loop-i.invariant.only)

pub returns : goal.returns
returns c = threads_are c.loop-i.invariant.only
    (turn_ends _ _ _ _ _ _ c.loop-i.invariant.so (omega (arith, c.count-i-end.ensures, c.loop-i-test.false)))
