-- `moving::without::threads` meets its contract. The loop: Leaving, of Sets.antt.
use Rattle.std.proofs.Common.{◌<◌, ap, ◌∙◌, arith}
use Rattle.laws.specs.Words.{Thread}
use Rattle.memory.specs.Rows.{Rows, Roomy, put_count}
use Rattle.memory.proofs.Sizes.{threads_long, same_room}
use Rattle.moving.proofs.Steps.{by, Within, the_threads, begins, threads_left}
use Rattle.moving.proofs.Loops.{sift_starts, sift_ends}
use Rattle.moving.proofs.Sets.{Listed, ListedAt, leave_drops, leave_holds}
use Rattle.moving.proofs.without.threads.Goals as goal

pub loop-i-init : goal.loop-i-init
loop-i-init c = begins the_threads (sift_starts _ _ _ _ (omega (arith, threads_long c.args.m.now, c.requires.2)))

pub record-requires : goal.record-requires
record-requires c = by (Within c.loop-i.i) c.loop-i.invariant.only (
  c.requires.0,
  omega (arith, c.requires.2, c.count-i-end.ensures, c.loop-i-test.true),
)

pub is_member-requires : goal.is_member-requires
is_member-requires c = by (Listed c.args.marks.now) c.loop-i.invariant.only (c.requires.0, c.requires.1, c.requires.3)

pub loop-i-preserved-then-is_member : goal.loop-i-preserved-then-is_member
loop-i-preserved-then-is_member c =
    leave_drops c.loop-i.invariant (omega (arith, c.count-i-end.ensures, c.loop-i-test.true))
    (c.name.ensures ∙ ap (λ (t : Thread). t.name) c.record.ensures) c.is_member.ensures c.if-is_member.true

pub lose_managers-requires : goal.lose_managers-requires
lose_managers-requires c = by (ListedAt c.args.marks.now c.loop-i.i) c.loop-i.invariant.only (
  c.requires.0,
  c.requires.1,
  omega (arith, c.requires.2, c.count-i-end.ensures, c.loop-i-test.true),
  c.requires.3,
)

pub move_thread-requires : goal.move_thread-requires
move_thread-requires c =
    let P : Rows → Type 0 = λ r. Roomy r × (c.loop-i.i < r.limits.threads) × (c.loop-i.k < r.limits.threads) in
    by P c.lose_managers.ensures
    (by P c.loop-i.invariant.only (
      c.requires.0,
      omega (arith, c.requires.2, c.count-i-end.ensures, c.loop-i-test.true),
      omega (arith, c.requires.2, c.count-i-end.ensures, c.loop-i-test.true, c.loop-i.invariant.so.behind),
    ))

pub overflow_add-k : goal.overflow_add-k
overflow_add-k c = omega (arith, c.loop-i.invariant.so.behind, c.loop-i-test.true)

pub loop-i-preserved : goal.loop-i-preserved
loop-i-preserved c =
    leave_holds c.loop-i.invariant (omega (arith, c.count-i-end.ensures, c.loop-i-test.true))
    (c.name.ensures ∙ ap (λ (t : Thread). t.name) c.record.ensures) c.is_member.ensures c.if-is_member.false
    c.lose_managers.ensures c.move_thread.ensures

pub set_count-requires : goal.set_count-requires
set_count-requires c = (
  by Roomy c.loop-i.invariant.only c.requires.0,
  omega (arith, c.requires.0.low, c.requires.2, c.loop-i.invariant.so.behind, c.loop-i.invariant.so.left.within),
)

pub shape_of-m : goal.shape_of-m
shape_of-m c =
    same_room c.args.m.now _ (ap (λ (r : Rows). r.room) (c.set_count.ensures ∙ ap (put_count _) c.loop-i.invariant.only))

pub returns : goal.returns
returns c = threads_left _ c.loop-i.invariant.only c.set_count.ensures
    (sift_ends _ _ _ _ _ _ _ c.loop-i.invariant.so (omega (arith, c.count-i-end.ensures, c.loop-i-test.false)))
    (omega (arith, c.requires.2, c.loop-i.invariant.so.behind, c.loop-i.invariant.so.left.within))
