-- `turn::turn` meets its contract. Whenever the loop's test is reached, the lines of the bytes used so far stand in the buffer, and what is
-- to be printed is these and then what the rest prints. The measure is how many bytes are left.
use mathlib.Core.Path.{◌≡◌, sym, ap, ◌∙◌}
use mathlib.Core.Bool.{true, not}
use mathlib.Core.Logic.{◌⊎◌, inl, inr}
use lib.ListN.{drop}
use borrow.Author.Tests.{not-false}
use Rattle.fields.specs.Fields.{whole}
use Rattle.fields.proofs.Sizes.{inside}
use Rattle.buffer.proofs.Putting.{room}
use Rattle.printing.proofs.Turning.{going_starts, going_on, line_fits, ends_cut, ends_full, ends_served}
use native.Mathlib.Omega.{arith}
use Rattle.printing.proofs.turn.turn.Goals as goal
use Rattle.printing.proofs.turn.turn.Goals.{else-not-next-via-then-not-next+else-not-ended, else-not-next-via-else-not-next}

pub loop-used-init : goal.loop-used-init
loop-used-init c = going_starts _ _ _ _ _ c.requires.0

pub field_at-next-requires : goal.field_at-next-requires
field_at-next-requires c = tt

pub shape_of-m-then-not-ended : goal.shape_of-m-then-not-ended
shape_of-m-then-not-ended c = c.loop-used.invariant.words

pub shape_of-out-then-not-ended : goal.shape_of-out-then-not-ended
shape_of-out-then-not-ended c = c.loop-used.invariant.long

pub returns-then-not-ended : goal.returns-then-not-ended
returns-then-not-ended c =
    let f = inside _ _ _ c.loop-used-test.true c.field_at-next.ensures in
    ends_cut c.loop-used.invariant (ap not c.if-not-ended.true) (ap not (sym f.all_there) ∙ c.if-not-next.true)

pub overflow_sub-out : goal.overflow_sub-out
overflow_sub-out c = omega (arith, c.loop-used.invariant.filled, c.loop-used.invariant.long)

pub shape_of-m-then-out-filled-lt-ROOM : goal.shape_of-m-then-out-filled-lt-ROOM
shape_of-m-then-out-filled-lt-ROOM c = c.loop-used.invariant.words

pub shape_of-out-then-out-filled-lt-ROOM : goal.shape_of-out-then-out-filled-lt-ROOM
shape_of-out-then-out-filled-lt-ROOM c = c.loop-used.invariant.long

pub returns-then-out-filled-lt-ROOM : goal.returns-then-out-filled-lt-ROOM
returns-then-out-filled-lt-ROOM c = ends_full c.loop-used.invariant c.if-out-filled-lt-ROOM.true

pub slice_bounds-step-count : goal.slice_bounds-step-count
slice_bounds-step-count c =
    let f = inside _ _ _ c.loop-used-test.true c.field_at-next.ensures in
    omega (arith, f.behind)

pub slice_bounds-step-start : goal.slice_bounds-step-start
slice_bounds-step-start c =
    let f = inside _ _ _ c.loop-used-test.true c.field_at-next.ensures in
    omega (arith, f.behind)

pub slice_bounds-step-end : goal.slice_bounds-step-end
slice_bounds-step-end c =
    let f = inside _ _ _ c.loop-used-test.true c.field_at-next.ensures in
    omega (arith, f.within)

pub step-d-requires : goal.step-d-requires
step-d-requires c = c.loop-used.invariant.standing.at_rest

pub slice_bounds-put_line-count : goal.slice_bounds-put_line-count
slice_bounds-put_line-count c =
    omega (arith, c.loop-used.invariant.filled, c.loop-used.invariant.long)

pub slice_bounds-put_line-start : goal.slice_bounds-put_line-start
slice_bounds-put_line-start c =
    omega (arith, c.loop-used.invariant.filled, c.loop-used.invariant.long)

pub slice_bounds-put_line-end : goal.slice_bounds-put_line-end
slice_bounds-put_line-end c = omega arith

pub put_line-filled-requires : goal.put_line-filled-requires
put_line-filled-requires c =
    omega (arith, c.if-out-filled-lt-ROOM.false, c.loop-used.invariant.long, room c.loop-used.invariant.puts)

pub overflow_add-filled : goal.overflow_add-filled
overflow_add-filled c =
    omega (
      arith,
      line_fits c.loop-used.invariant c.put_line-filled.ensures c.put_line-filled.auto.out,
    )

pub overflow_add-line : goal.overflow_add-line
overflow_add-line c =
    omega (arith, c.requires.1, c.loop-used.invariant.numbered, c.loop-used-test.true)

pub loop-used-smaller : goal.loop-used-smaller
loop-used-smaller c =
    let f = inside _ _ _ c.loop-used-test.true c.field_at-next.ensures in
    omega (arith, f.behind, f.within)

pub loop-used-preserved : goal.loop-used-preserved
loop-used-preserved c =
    let f = inside _ _ _ c.loop-used-test.true c.field_at-next.ensures in
    let there : (whole (drop c.loop-used.used c.args.input.now) ≡ true) ⊎ (c.args.ended ≡ true) =
    elim c.else-not-next.branch [
      | else-not-next-via-then-not-next+else-not-ended w ↦ inr w.if-not-ended.false
      | else-not-next-via-else-not-next w ↦ inl (sym f.all_there ∙ not-false _ w.if-not-next.false)
    ] in
    going_on c.loop-used.invariant c.loop-used-test.true there f.ends f.within c.step-d.ensures c.step-d.auto.m
    c.put_line-filled.ensures c.put_line-filled.auto.out

pub shape_of-m : goal.shape_of-m
shape_of-m c = c.loop-used.invariant.words

pub shape_of-out : goal.shape_of-out
shape_of-out c = c.loop-used.invariant.long

pub returns : goal.returns
returns c = ends_served c.loop-used.invariant c.loop-used-test.false
