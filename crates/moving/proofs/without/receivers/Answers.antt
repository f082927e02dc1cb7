-- `moving::without::receivers` meets its contract. The loop: Freeing, of Sets.antt.
use Rattle.std.proofs.Common.{ap, ◌∙◌, arith}
use Rattle.rules.specs.Ending.{told_gone}
use Rattle.laws.specs.Words.{Thread}
use Rattle.memory.specs.Rows.{Rows, Roomy}
use Rattle.memory.proofs.Sizes.{threads_long, ready_long, same_room}
use Rattle.moving.proofs.Steps.{by, Within}
use Rattle.moving.proofs.Sets.{Listed, free_starts, free_tests, free_by, free_room, free_next, free_ends}
use Rattle.moving.proofs.without.receivers.Goals as goal

pub loop-i-init : goal.loop-i-init
loop-i-init c = free_starts (omega (arith, threads_long c.args.m.now, c.requires.2)) (omega (arith, ready_long c.args.m.now, c.requires.3))

pub record-t-requires : goal.record-t-requires
record-t-requires c = by (Within c.loop-i.i) c.loop-i.invariant.only (
  c.requires.0,
  omega (arith, c.requires.2, c.count-i-end.ensures, c.loop-i-test.true),
)

pub misses-requires : goal.misses-requires
misses-requires c = by (Listed c.args.marks.now) c.loop-i.invariant.only (c.requires.0, c.requires.1, c.requires.4)

pub turn-requires : goal.turn-requires
turn-requires c = by (Within c.loop-i.i) c.loop-i.invariant.only (
  c.requires.0,
  omega (arith, c.requires.2, c.count-i-end.ensures, c.loop-i-test.true),
)

pub join_ready-requires : goal.join_ready-requires
join_ready-requires c =
    let F = c.loop-i.invariant in
    let s = c.state-s.ensures ∙ ap (λ (t : Thread). t.state) c.record-t.ensures in (
      by Roomy c.turn.ensures (by Roomy F.only c.requires.0),
      free_room F (omega (arith, c.count-i-end.ensures, c.loop-i-test.true)) (free_tests F s c.misses.ensures ∙ c.if-not-misses.false)
          c.requires.3 c.turn.ensures,
    )

pub loop-i-preserved : goal.loop-i-preserved
loop-i-preserved c =
    let F = c.loop-i.invariant in
    let s = c.state-s.ensures ∙ ap (λ (t : Thread). t.state) c.record-t.ensures in
    free_next F (omega (arith, c.count-i-end.ensures, c.loop-i-test.true)) (free_tests F s c.misses.ensures ∙ c.if-not-misses.false)
    (c.name-name.ensures ∙ ap (λ (t : Thread). t.name) c.record-t.ensures)
    (c.told_gone-a.ensures ∙ ap told_gone s) c.turn.ensures c.join_ready.ensures

pub loop-i-preserved-then-not-misses : goal.loop-i-preserved-then-not-misses
loop-i-preserved-then-not-misses c =
    let F = c.loop-i.invariant in
    let s = c.state-s.ensures ∙ ap (λ (t : Thread). t.state) c.record-t.ensures in
    free_by F (omega (arith, c.count-i-end.ensures, c.loop-i-test.true)) (free_tests F s c.misses.ensures ∙ c.if-not-misses.true)

pub shape_of-m : goal.shape_of-m
shape_of-m c = same_room c.args.m.now _ (ap (λ (r : Rows). r.room) c.loop-i.invariant.only)

pub returns : goal.returns
returns c = free_ends c.loop-i.invariant (omega (arith, c.count-i-end.ensures, c.loop-i-test.false)) c.requires.3
