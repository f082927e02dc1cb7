-- `moving::row::open_gap` meets its contract. The loop: each entry from i on stands one further, and those before are as they were.
use Rattle.std.proofs.Common.{◌≡◌, ◌+◌, ◌-◌, ◌<◌, length, ap, ◌∙◌, arith}
use lib.ListN.{length-set}
use Rattle.memory.specs.Memory.{rows_of}
use Rattle.memory.specs.Rows.{Rows}
use Rattle.memory.proofs.Sizes.{same_room}
use Rattle.moving.proofs.Loops.{shift_starts, shift_next}
use Rattle.moving.proofs.Steps.{begins, writes, only_roomy, only_limit, only_room, row_is, filled}
use Rattle.moving.proofs.row.open_gap.Goals as goal

pub loop-i-init : goal.loop-i-init
loop-i-init g c =
    let w = g.R.Row.row in
    let r = rows_of c.args.m.now in
    let l : length (w.of r) ≡ w.limit r.limits = c.count-n.ensures.long in
    record {
      moved = rw c.count-n.ensures.counts (begins w (shift_starts (w.count r) (w.of r) (omega (arith, l, c.requires.2))));
      above = omega (arith, c.count-n.ensures.counts, c.requires.1);
    }

pub shift-requires : goal.shift-requires
shift-requires g c =
    let w = g.R.Row.row in
    let n : w.limit (rows_of c.loop-i.m).limits ≡ w.limit (rows_of c.args.m.now).limits = only_limit w c.loop-i.invariant.moved.only in
    let e : c.count-n.result ≡ w.count (rows_of c.args.m.now) = c.count-n.ensures.counts in (
      only_roomy w c.loop-i.invariant.moved.only c.requires.0,
      omega (arith, n, e, c.requires.2, c.loop-i-test.true),
      omega (arith, n, e, c.requires.2, c.loop-i-test.true),
    )

pub loop-i-preserved : goal.loop-i-preserved
loop-i-preserved g c =
    let w = g.R.Row.row in
    let e : c.loop-i.i - 1 + 1 ≡ c.loop-i.i = omega (arith, c.loop-i-test.true) in
    record {
      moved = writes w _ c.loop-i.invariant.moved (rw e at c.shift.ensures)
          (shift_next _ _ _ _ w.none (omega (arith, c.loop-i-test.true)) c.loop-i.invariant.moved.so);
      above = omega (arith, c.loop-i-test.true);
    }

pub put-requires : goal.put-requires
put-requires g c =
    let w = g.R.Row.row in
    let n : w.limit (rows_of c.loop-i.m).limits ≡ w.limit (rows_of c.args.m.now).limits = only_limit w c.loop-i.invariant.moved.only in
    (only_roomy w c.loop-i.invariant.moved.only c.requires.0, omega (arith, n, c.requires.1, c.requires.2))

pub set_count-requires : goal.set_count-requires
set_count-requires g c =
    let w = g.R.Row.row in
    let e : c.count-n.result ≡ w.count (rows_of c.args.m.now) = c.count-n.ensures.counts in
    let s : w.limit (rows_of c.args.m.now).limits < 4294967296 = c.count-n.ensures.small in
    let O = filled w c.args.at c.args.x c.loop-i.invariant.moved (omega (arith, c.loop-i-test.false, c.loop-i.invariant.above)) c.put.ensures in
    (only_roomy w O.only c.requires.0, omega (arith, e, s, c.requires.2))

pub shape_of-m : goal.shape_of-m
shape_of-m g c =
    let w = g.R.Row.row in
    let O = filled w c.args.at c.args.x c.loop-i.invariant.moved (omega (arith, c.loop-i-test.false, c.loop-i.invariant.above)) c.put.ensures in
    same_room c.args.m.now _
    (ap (λ (r : Rows). r.room) c.set_count.ensures ∙ w.count_room _ _ ∙ only_room w O.only)

pub returns : goal.returns
returns g c =
    let w = g.R.Row.row in
    let e : c.count-n.result ≡ w.count (rows_of c.args.m.now) = c.count-n.ensures.counts in
    let O = filled w c.args.at c.args.x c.loop-i.invariant.moved (omega (arith, c.loop-i-test.false, c.loop-i.invariant.above)) c.put.ensures in
    let l : length (w.of (rows_of c.put.new.m)) ≡ length (w.of (rows_of c.loop-i.m)) =
    ap (λ (r : Rows). length (w.of r)) c.put.ensures ∙ ap length (w.put_of _ _) ∙ length-set _ _ _ in
    let n : length (w.of (rows_of c.loop-i.m)) ≡ length (w.of (rows_of c.args.m.now)) = c.loop-i.invariant.moved.so.long in
    row_is w _ O.only c.set_count.ensures (rw e O.so)
    (omega (arith, e, l, n, c.count-n.ensures.long, c.requires.2)) (omega (arith, e, c.requires.2))
