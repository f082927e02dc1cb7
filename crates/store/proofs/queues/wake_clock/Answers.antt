-- `queues::wake_clock` meets its contract: threads, then the ready queue, then nobody waits.
use Rattle.std.proofs.Common.{◌+◌, ◌≤◌, [], ◌++◌, refl, arith}
use Rattle.rules.specs.Tables.{in_state, with_clock, with_ready}
use Rattle.memory.specs.Rows.{Rows, Roomy}
use Rattle.moving.proofs.Steps.{by}
use Rattle.store.specs.Store.{limits, tables}
use Rattle.store.proofs.Written.{leaves, ready_is, threads_are, after, rising_where, clock_none}
use Rattle.store.proofs.Searched.{ready_length, clock_length, roomy}
use Rattle.rules.specs.Waking.{wake_those}
use Rattle.rules.specs.States.{on_clock}
use Rattle.laws.specs.Words.{Ready, Result}
use Rattle.store.proofs.queues.wake_clock.Goals as goal

pub clock_joins_ready-requires : goal.clock_joins_ready-requires
unfolding limits
clock_joins_ready-requires c =
    by (λ (r : Rows). Roomy r × (r.readies + r.clocks ≤ r.limits.threads)) c.wake_clock.ensures.only (
      roomy c.args.m.now c.requires.0.shaped,
      omega (arith, c.requires.1, ready_length c.args.m.now c.requires.0.shaped, clock_length c.args.m.now c.requires.0.shaped),
    )

pub returns : goal.returns
unfolding tables wake_those
returns c =
    let a = threads_are c.requires.0.shaped c.wake_clock.ensures in
    let b = ready_is a.shaped c.clock_joins_ready.ensures in
    leaves
    (after (λ T. with_clock [] T) (after (λ T. with_ready (T.ready ++ T.clock) T) a b)
    (clock_none b.shaped c.set_clocks.ensures))
    (rising_where (tables c.args.m.now).threads c.requires.0.rising (λ t. on_clock t.state)
    (in_state Ready (Result c.args.beats)) (λ t. refl))
