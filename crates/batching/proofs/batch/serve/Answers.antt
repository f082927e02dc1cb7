-- `batch::serve` meets its contract: 14, or all complete fields run.
use native.Mathlib.Omega.{arith}
use Rattle.rules.specs.Refused.{refusal_told, refusal_number}
use Rattle.batching.proofs.Serving.{refused_14, ran}
use Rattle.batching.proofs.batch.serve.Goals as goal

pub returns-then-out-c : goal.returns-then-out-c
unfolding refusal_told refusal_number
returns-then-out-c c = refused_14 c.count_complete-c.ensures c.if-out-c.true

pub run-requires : goal.run-requires
run-requires c = (c.count_complete-c.ensures.count, omega (arith, c.if-out-c.false))

pub returns : goal.returns
unfolding refusal_told
returns c =
    ran c.count_complete-c.ensures c.if-out-c.false c.run.ensures
