-- `moving::threads::find_place` meets its contract. The loop: the place is one of those from `low` to `high`.
use Rattle.std.proofs.Common.{ap, arith}
use Rattle.laws.specs.Words.{Thread}
use Rattle.memory.specs.Rows.{no_thread}
use Rattle.memory.proofs.Sizes.{threads_long}
use Rattle.moving.proofs.Halving.{anywhere, above, not_above, only_place}
use Rattle.moving.proofs.threads.find_place.Goals as goal

pub loop-low-init : goal.loop-low-init
loop-low-init c =
    anywhere _ _ _ (omega (arith, c.requires.1, threads_long c.args.m.now)) _ c.count-high.ensures

pub overflow_sub-middle : goal.overflow_sub-middle
overflow_sub-middle c = omega arith

pub overflow_add-middle : goal.overflow_add-middle
overflow_add-middle c = omega arith

pub record-requires : goal.record-requires
record-requires c =
    (c.requires.0, omega (arith, c.loop-low-test.true, c.loop-low.invariant.within, c.requires.1))

pub overflow_add-low : goal.overflow_add-low
overflow_add-low c = omega arith

pub loop-low-smaller-then-name : goal.loop-low-smaller-then-name
loop-low-smaller-then-name c = omega arith

pub loop-low-preserved-then-name : goal.loop-low-preserved-then-name
loop-low-preserved-then-name c =
    above _ _ _ (omega (arith, c.requires.1, threads_long c.args.m.now)) _ _ _ no_thread c.loop-low.invariant
    (omega (arith, c.loop-low-test.true)) c.requires.2 (omega (arith, c.if-name.true, c.name.ensures, ap (λ (t : Thread). t.name) c.record.ensures))

pub loop-low-smaller : goal.loop-low-smaller
loop-low-smaller c = omega arith

pub loop-low-preserved : goal.loop-low-preserved
loop-low-preserved c =
    not_above _ _ _ (omega (arith, c.requires.1, threads_long c.args.m.now)) _ _ _ no_thread c.loop-low.invariant
    (omega (arith, c.loop-low-test.true)) (omega (arith, c.if-name.false, c.name.ensures, ap (λ (t : Thread). t.name) c.record.ensures))

pub returns : goal.returns
returns c = only_place _ _ _ _ _ c.loop-low.invariant c.loop-low-test.false
