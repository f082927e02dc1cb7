-- `moving::row::sift` meets its contract. The loop: Keeping, of Steps.antt, whatever the test is.
use Rattle.std.proofs.Common.{◌≡◌, ◌<◌, length, refl, ap, ◌∙◌, arith}
use Rattle.memory.specs.Memory.{rows_of}
use Rattle.memory.specs.Rows.{Rows}
use Rattle.memory.proofs.Sizes.{same_room}
use Rattle.moving.proofs.Loops.{starts, moves, passes_by, sift_starts, keep_ends}
use Rattle.moving.proofs.Steps.{begins, writes, stays, only_roomy, only_limit, only_room, row_is, keep_drops, keep_holds}
use Rattle.moving.proofs.row.sift.Goals as goal

pub loop-i-init : goal.loop-i-init
loop-i-init g c =
    let w = g.R.Row.row in
    let r = rows_of c.args.m.now in
    let l : length (w.of r) ≡ w.limit r.limits = c.count-n.ensures.long in
    record {
      left = begins w (starts (w.count r) (w.of r) 0 (omega (arith, l, c.requires.1)) (omega arith));
      behind = omega arith;
      keeps = λ q h. begins w (sift_starts _ _ (w.count r) (w.of r) (omega (arith, l, c.requires.1)));
    }

pub entry-requires : goal.entry-requires
entry-requires g c =
    let w = g.R.Row.row in
    let n : w.limit (rows_of c.loop-i.m).limits ≡ w.limit (rows_of c.args.m.now).limits = only_limit w c.loop-i.invariant.left.only in
    let e : c.count-n.result ≡ w.count (rows_of c.args.m.now) = c.count-n.ensures.counts in
    (only_roomy w c.loop-i.invariant.left.only c.requires.0, omega (arith, n, e, c.requires.1, c.loop-i-test.true))

pub shift-requires : goal.shift-requires
shift-requires g c =
    let w = g.R.Row.row in
    let n : w.limit (rows_of c.loop-i.m).limits ≡ w.limit (rows_of c.args.m.now).limits = only_limit w c.loop-i.invariant.left.only in
    let e : c.count-n.result ≡ w.count (rows_of c.args.m.now) = c.count-n.ensures.counts in (
      only_roomy w c.loop-i.invariant.left.only c.requires.0,
      omega (arith, n, e, c.requires.1, c.loop-i-test.true),
      omega (arith, n, e, c.requires.1, c.loop-i-test.true, c.loop-i.invariant.behind),
    )

pub overflow_add-k : goal.overflow_add-k
overflow_add-k g c = omega (arith, c.loop-i.invariant.behind, c.loop-i-test.true)

pub loop-i-preserved-then-goes : goal.loop-i-preserved-then-goes
loop-i-preserved-then-goes g c =
    let w = g.R.Row.row in
    let I = c.loop-i.invariant in
    let e : c.count-n.result ≡ w.count (rows_of c.args.m.now) = c.count-n.ensures.counts in
    let low : c.loop-i.i < w.count (rows_of c.args.m.now) = omega (arith, e, c.loop-i-test.true) in
    record {
      left = stays w I.left (passes_by _ _ _ _ I.left.so low);
      behind = omega (arith, I.behind);
      keeps = λ q h. keep_drops w w.none q (I.keeps q h) low c.entry.ensures (h _ _ c.goes.ensures) c.if-goes.true;
    }

pub loop-i-preserved : goal.loop-i-preserved
loop-i-preserved g c =
    let w = g.R.Row.row in
    let I = c.loop-i.invariant in
    let e : c.count-n.result ≡ w.count (rows_of c.args.m.now) = c.count-n.ensures.counts in
    let low : c.loop-i.i < w.count (rows_of c.args.m.now) = omega (arith, e, c.loop-i-test.true) in
    record {
      left = writes w _ I.left c.shift.ensures (moves _ _ _ _ _ _ I.left.so low I.behind);
      behind = omega (arith, I.behind);
      keeps = λ q h. keep_holds w w.none q (I.keeps q h) low refl (h _ _ c.goes.ensures ∙ ap q c.entry.ensures) c.if-goes.false c.shift.ensures;
    }

pub set_count-requires : goal.set_count-requires
set_count-requires g c =
    let w = g.R.Row.row in
    let I = c.loop-i.invariant in
    let s : w.limit (rows_of c.args.m.now).limits < 4294967296 = c.count-n.ensures.small in
    (only_roomy w I.left.only c.requires.0, omega (arith, s, c.requires.1, I.behind, I.left.so.within))

pub shape_of-m : goal.shape_of-m
shape_of-m g c =
    let w = g.R.Row.row in
    same_room c.args.m.now _
    (ap (λ (r : Rows). r.room) c.set_count.ensures ∙ w.count_room _ _ ∙ only_room w c.loop-i.invariant.left.only)

pub returns : goal.returns
returns g c =
    let w = g.R.Row.row in
    let I = c.loop-i.invariant in
    let e : c.count-n.result ≡ w.count (rows_of c.args.m.now) = c.count-n.ensures.counts in
    λ q h. let K = I.keeps q h in
    row_is w _ K.only c.set_count.ensures
    (keep_ends _ _ _ _ _ _ K.so (omega (arith, e, c.loop-i-test.false)))
    (omega (arith, I.behind, I.left.so.within, I.left.so.long, I.left.so.whole))
    (omega (arith, I.behind, I.left.so.within, c.requires.1))
