-- `parents::leads` meets its contract. The loop: the steps so far led to a place, neither before the start nor above all. n + 1 steps are
-- tried.
use Rattle.std.proofs.Common.{inl, inr, arith}
use Rattle.ranging.proofs.Leading.{go_starts, go_next, go_leads, go_ends}
use Rattle.ranging.proofs.parents.leads.Goals.{then-at-i-via-then-at-i, then-at-i-via-else-at-i+then-up-at}
use Rattle.ranging.proofs.parents.leads.Goals as goal

pub loop-k-init : goal.loop-k-init
loop-k-init c = go_starts _ _ _ c.requires.1

pub returns-then-at-i : goal.returns-then-at-i
returns-then-at-i c = go_leads _ _ _ _ _ _ c.loop-k.invariant c.from-at.ensures (elim c.then-at-i.branch [
  | then-at-i-via-then-at-i w ↦ inl w.if-at-i.true
  | then-at-i-via-else-at-i+then-up-at w ↦ inr w.if-up-at.true
])

pub loop-k-preserved : goal.loop-k-preserved
loop-k-preserved c = go_next _ _ _ _ _ _ c.loop-k.invariant (omega arith) c.from-at.ensures c.if-at-i.false c.if-up-at.false

pub returns-else-up-at : goal.returns-else-up-at
returns-else-up-at c = go_ends _ _ _ _ _
    (go_next _ _ _ _ _ _ c.loop-k.invariant (omega arith) c.from-at.ensures c.if-at-i.false c.if-up-at.false) (omega arith)
