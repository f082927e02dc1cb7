-- `moving::queues::clock_joins_ready` meets its contract. The loop: the ready queue and the waiters that are left are the ready queue and
-- all waiters.
use mathlib.Core.Path.{ap}
use native.Mathlib.Omega.{arith}
use Rattle.memory.specs.Rows.{Rows, Roomy}
use Rattle.memory.proofs.Sizes.{ready_long, clock_long, same_room}
use Rattle.moving.proofs.Steps.{by, Within, joins_starts, joins_next, joins_ends}
use Rattle.moving.proofs.queues.clock_joins_ready.Goals as goal

pub loop-i-init : goal.loop-i-init
loop-i-init c =
    joins_starts _ (ready_long c.args.m.now) (clock_long c.args.m.now)
    c.requires.1

pub clock_at-x-requires : goal.clock_at-x-requires
clock_at-x-requires c = by (Within _) c.loop-i.invariant.only (
  c.requires.0,
  omega (arith, c.requires.1, c.clocks-i-end.ensures, c.loop-i-test.true),
)

pub join_ready-requires : goal.join_ready-requires
join_ready-requires c = let e = c.loop-i.invariant in (
  by Roomy e.only c.requires.0,
  omega (
    arith,
    ap (λ (r : Rows). r.limits.threads) e.only,
    e.appended.room,
    c.requires.1,
    c.clocks-i-end.ensures,
    c.loop-i-test.true,
  ),
)

pub loop-i-preserved : goal.loop-i-preserved
loop-i-preserved c = joins_next _ _ _ _ _ c.loop-i.invariant (omega (arith, c.clocks-i-end.ensures, c.loop-i-test.true))
    c.clock_at-x.ensures c.join_ready.ensures

pub shape_of-m : goal.shape_of-m
shape_of-m c =
    same_room c.args.m.now _ (ap (λ (r : Rows). r.room) c.loop-i.invariant.only)

pub returns : goal.returns
returns c = joins_ends _ _ _ c.loop-i.invariant (omega (arith, c.clocks-i-end.ensures, c.loop-i-test.false))
    c.requires.1
