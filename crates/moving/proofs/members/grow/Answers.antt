-- `moving::members::grow` meets its contract. The loop: Growing, of Sets.antt.
use Rattle.std.proofs.Common.{◌<◌, ap, ◌∙◌, arith}
use Rattle.laws.specs.Words.{Thread}
use Rattle.memory.specs.Memory.{rows_of}
use Rattle.memory.specs.Rows.{Rows, Roomy}
use Rattle.memory.proofs.Sizes.{threads_long, ended_long, same_room}
use Rattle.moving.proofs.Steps.{by, Within}
use Rattle.moving.proofs.Sets.{grow_starts, grow_tests, grow_by, grow_room, grow_next, grow_ends}
use Rattle.moving.proofs.members.grow.Goals as goal

pub loop-i-init : goal.loop-i-init
loop-i-init c = record {
  grows = grow_starts (omega (arith, threads_long c.args.m.now, c.requires.1));
  marked = c.requires.3;
}

pub joins-requires : goal.joins-requires
joins-requires c =
    let w = by (Within c.loop-i.i) c.loop-i.invariant.grows.only
    (c.requires.0, omega (arith, c.requires.1, c.count-i-end.ensures, c.loop-i-test.true)) in
    (w.0, omega (arith, c.requires.0.low, c.requires.2, c.ends-e.ensures), w.1, c.loop-i.invariant.marked)

pub record-requires : goal.record-requires
record-requires c = by (Within c.loop-i.i) c.loop-i.invariant.grows.only (
  c.requires.0,
  omega (arith, c.requires.1, c.count-i-end.ensures, c.loop-i-test.true),
)

pub add-requires : goal.add-requires
add-requires c =
    let G = c.loop-i.invariant.grows in
    let w = by (λ (r : Rows). Roomy r × ((rows_of c.loop-i.m).ends < r.limits.threads)) G.only (
      c.requires.0,
      omega (
        arith,
        c.requires.2,
        grow_room G (omega (arith, c.count-i-end.ensures, c.loop-i-test.true))
            (grow_tests G c.ends-e.ensures c.joins.ensures ∙ c.if-not-joins.false),
      ),
    ) in
    (w.0, w.1, c.loop-i.invariant.marked)

pub loop-i-preserved : goal.loop-i-preserved
loop-i-preserved c =
    let G = c.loop-i.invariant.grows in
    let j = grow_tests G c.ends-e.ensures c.joins.ensures ∙ c.if-not-joins.false in
    let h : c.loop-i.i < (rows_of c.args.m.now).count = omega (arith, c.count-i-end.ensures, c.loop-i-test.true) in
    record {
      grows = grow_next G h j (c.name-name.ensures ∙ ap (λ (t : Thread). t.name) c.record.ensures)
          (omega (arith, ended_long c.args.m.now, c.requires.2, grow_room G h j)) c.add.ensures.0;
      marked = c.add.ensures.1;
    }

pub loop-i-preserved-then-not-joins : goal.loop-i-preserved-then-not-joins
loop-i-preserved-then-not-joins c =
    let G = c.loop-i.invariant.grows in
    record {
      grows = grow_by G (omega (arith, c.count-i-end.ensures, c.loop-i-test.true))
          (grow_tests G c.ends-e.ensures c.joins.ensures ∙ c.if-not-joins.true);
      marked = c.loop-i.invariant.marked;
    }

pub shape_of-m : goal.shape_of-m
shape_of-m c = same_room c.args.m.now _ (ap (λ (r : Rows). r.room) c.loop-i.invariant.grows.only)

pub returns : goal.returns
returns c = (
  grow_ends c.loop-i.invariant.grows (omega (arith, c.count-i-end.ensures, c.loop-i-test.false)) c.requires.2 (ended_long c.args.m.now),
  c.loop-i.invariant.marked,
)
