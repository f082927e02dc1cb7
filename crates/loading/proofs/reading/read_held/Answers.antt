-- `reading::read_held` meets its contract: the loop of Filling, over held words.
use Rattle.std.proofs.Common.{refl}
use Rattle.rules.specs.Lists.{all}
use Rattle.rules.specs.Load.{held_from}
use Rattle.loading.proofs.Cutting.{long_value, read_value}
use Rattle.loading.proofs.Filling.{rowing_starts, rowing_next, rowing_ends, rowing_full, rowing_stops, held_kind, held_last}
use Rattle.loading.proofs.Filling.{held_low, never_high}
use Rattle.loading.proofs.reading.read_held.Goals as goal

pub loop-n-init : goal.loop-n-init
unfolding all
loop-n-init c = rowing_starts held_kind _ _ _ c.requires.0 c.requires.1 c.requires.2 (rw c.requires.1 refl)

pub returns-in_default : goal.returns-in_default
returns-in_default c = rowing_ends held_kind _ _ _ _ _ _ c.loop-n.invariant (c.value_at.ensures.shut c.in_default.is)

pub read_word-x-requires : goal.read_word-x-requires
read_word-x-requires c = long_value c.value_at.ensures c.in-Some.is

pub returns-then-x-ge-DEVICES : goal.returns-then-x-ge-DEVICES
returns-then-x-ge-DEVICES c =
    rowing_stops held_kind _ _ _ _ _ _ c.loop-n.invariant _
    (c.value_at.ensures.opened _ c.in-Some.is).0
    (read_value c.value_at.ensures held_from c.in-Some.is c.read_word-x.ensures)
    (never_high _ c.if-x-ge-DEVICES.true)

pub loop-n-preserved : goal.loop-n-preserved
loop-n-preserved c =
    rowing_next held_kind _ _ _ _ _ _ c.loop-n.invariant _ _ _ c.loop-n-test.true
    (c.value_at.ensures.opened _ c.in-Some.is).0
    (read_value c.value_at.ensures held_from c.in-Some.is c.read_word-x.ensures)
    c.fill_held.ensures
    (held_low _ _ _ c.if-x-ge-DEVICES.false c.loop-n.invariant.holds)
    (λ xs zs f e. held_last _ _ _ _ f e)
    c.fill_held.auto.m

pub returns : goal.returns
returns c = rowing_full held_kind _ _ _ _ _ _ c.loop-n.invariant c.loop-n-test.false
