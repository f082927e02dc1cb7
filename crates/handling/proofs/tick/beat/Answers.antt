-- `tick::beat` meets its contract. The ready and the clock waiters are different threads, so the ready queue has room for all.
use Rattle.handling.proofs.Ticking.{passed, beat_room, struck}
use Rattle.std.proofs.Common.{refl}
use Rattle.handling.proofs.tick.beat.Goals as goal

pub wake_clock-requires : goal.wake_clock-requires
wake_clock-requires c =
    beat_room _ _
    c.since-since.ensures
    c.beats-beats.ensures
    _
    refl
    c.set_time.ensures
    c.requires.0.inv

pub returns-then-since-eq-BEAT : goal.returns-then-since-eq-BEAT
returns-then-since-eq-BEAT c =
    struck _ _
    c.since-since.ensures
    c.beats-beats.ensures
    _
    refl
    c.set_time.ensures
    c.if-since-eq-BEAT.true
    c.wake_clock.ensures

pub returns-else-since-eq-BEAT : goal.returns-else-since-eq-BEAT
returns-else-since-eq-BEAT c =
    passed _ _
    c.since-since.ensures
    c.beats-beats.ensures
    c.if-since-eq-BEAT.false
    c.set_time-else-since-eq-BEAT.ensures
