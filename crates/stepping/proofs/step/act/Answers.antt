-- `step::act` meets its contract, event by event.
use Rattle.std.proofs.Common.{refl}
use Rattle.rules.specs.Step.{act}
use Rattle.laws.specs.Decoded.{Proper}
use Rattle.store.specs.Store.{limits, tables}
use Rattle.handling.proofs.Leaving.{and_hands}
use Rattle.stepping.specs.Stepping.{event_of}
use Rattle.stepping.proofs.Stepping.{called_by, serves}
use Rattle.stepping.proofs.step.act.Goals as goal

pub serve-requires : goal.serve-requires
serve-requires c =
    let r = rw c.in-ByRunner.is at c.requires in
    let k = called_by (limits c.args.m.now) (tables c.args.m.now) c.in-ByRunner.me c.in-ByRunner.c r.1 r.2 r.3 in
    (c.requires.0, k.0, k.1, k.2)

pub interrupt-requires : goal.interrupt-requires
unfolding Proper event_of
interrupt-requires c = (c.requires.0, (rw c.in-Interrupt.is at c.requires.3).0)

pub returns-in-ByRunner : goal.returns-in-ByRunner
returns-in-ByRunner c =
    let r = rw c.in-ByRunner.is at c.requires.1 in
    rw (c.in-ByRunner.is, ← serves (tables c.args.m.now) c.in-ByRunner.me c.in-ByRunner.c r) c.serve.ensures

pub returns-in-Tick : goal.returns-in-Tick
unfolding act event_of
returns-in-Tick c = rw c.in-Tick.is (and_hands c.tick.ensures refl)

pub returns-in-Interrupt : goal.returns-in-Interrupt
unfolding act event_of
returns-in-Interrupt c = rw c.in-Interrupt.is (and_hands c.interrupt.ensures refl)
