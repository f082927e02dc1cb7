-- `moving::row::close_gap` meets its contract. The loop: what is moved up and the rest are the row without the entry that goes.
use Rattle.std.proofs.Common.{◌≡◌, ℕ, ◌-◌, ◌<◌, length, take, refl, ap, ◌∙◌, arith}
use Rattle.memory.specs.Memory.{rows_of}
use Rattle.memory.specs.Rows.{Rows}
use Rattle.memory.proofs.Sizes.{same_room}
use Rattle.moving.proofs.Loops.{close_starts, close_next, close_ends}
use Rattle.moving.proofs.Steps.{begins, writes, only_roomy, only_limit, only_room, row_is}
use Rattle.moving.proofs.row.close_gap.Goals as goal

pub loop-i-init : goal.loop-i-init
loop-i-init g c =
    let w = g.R.Row.row in
    let r = rows_of c.args.m.now in
    let l : length (w.of r) ≡ w.limit r.limits = c.count-last.ensures.long in
    begins w (close_starts c.args.at (w.count r) (w.of r) (omega (arith, l, c.requires.2)) c.requires.1)

pub shift-requires : goal.shift-requires
shift-requires g c =
    let w = g.R.Row.row in
    let n : w.limit (rows_of c.loop-i.m).limits ≡ w.limit (rows_of c.args.m.now).limits = only_limit w c.loop-i.invariant.only in
    let e : c.count-last.result ≡ w.count (rows_of c.args.m.now) = c.count-last.ensures.counts in (
      only_roomy w c.loop-i.invariant.only c.requires.0,
      omega (arith, n, e, c.requires.2, c.loop-i-test.true),
      omega (arith, n, e, c.requires.2, c.loop-i-test.true),
    )

pub loop-i-preserved : goal.loop-i-preserved
loop-i-preserved g c =
    let w = g.R.Row.row in
    let e : c.count-last.result ≡ w.count (rows_of c.args.m.now) = c.count-last.ensures.counts in
    writes w _ c.loop-i.invariant c.shift.ensures
    (close_next _ _ _ _ _ _ w.none c.loop-i.invariant.so (omega (arith, e, c.loop-i-test.true)) refl)

pub set_count-requires : goal.set_count-requires
set_count-requires g c =
    let w = g.R.Row.row in
    let e : c.count-last.result ≡ w.count (rows_of c.args.m.now) = c.count-last.ensures.counts in
    let s : w.limit (rows_of c.args.m.now).limits < 4294967296 = c.count-last.ensures.small in
    (only_roomy w c.loop-i.invariant.only c.requires.0, omega (arith, e, s, c.requires.2))

pub shape_of-m : goal.shape_of-m
shape_of-m g c =
    let w = g.R.Row.row in
    same_room c.args.m.now _
    (ap (λ (r : Rows). r.room) c.set_count.ensures ∙ w.count_room _ _ ∙ only_room w c.loop-i.invariant.only)

pub returns : goal.returns
returns g c =
    let w = g.R.Row.row in
    let r = rows_of c.args.m.now in
    let O = c.loop-i.invariant in
    let e : c.count-last.result - 1 ≡ w.count r - 1 = ap (λ (k : ℕ). k - 1) c.count-last.ensures.counts in
    let l : length (w.of (rows_of c.loop-i.m)) ≡ length (w.of r) = O.so.left.long in
    row_is w _ O.only c.set_count.ensures
    (ap (λ (k : ℕ). take k (w.of (rows_of c.loop-i.m))) e
    ∙ close_ends _ _ _ _ _ O.so (omega (arith, e, c.loop-i-test.false)))
    (omega (arith, e, l, O.so.left.whole))
    (omega (arith, e, c.requires.2))
