-- `batch::run`: one event more was run, and its decision stands behind the others.
use Rattle.std.proofs.Common.{ap, rules, arith}
use Rattle.fields.specs.declared.Cut.{Cut}
use Rattle.batching.proofs.Running.{running_starts, field_within, one_run_on}
use Rattle.batching.proofs.batch.run.Goals as goal

pub loop-k-init : goal.loop-k-init
loop-k-init c = running_starts _ _ _ _ _ c.check-good.ensures (omega (arith, c.requires.0)) (omega (arith, c.requires.1))

pub slice_bounds-answer-end : goal.slice_bounds-answer-end
slice_bounds-answer-end c =
    let f = field_within c.loop-k.invariant (omega arith) (ap (λ (x : Cut). x.end) c.cut_at-end.ensures) in
    search (rules, f.1)

pub loop-k-preserved : goal.loop-k-preserved
loop-k-preserved c =
    one_run_on c.loop-k.invariant (omega arith) (ap (λ (x : Cut). x.end) c.cut_at-end.ensures)
    c.answer-d.ensures c.answer-d.auto.m c.put_decision.ensures c.put_decision.auto.out (omega arith) (omega arith)
