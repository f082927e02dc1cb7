-- `parents::all_lead` meets its contract. The loop: each place passed leads above all.
use Rattle.ranging.proofs.Leading.{lead_next}
use Rattle.ranging.proofs.parents.all_lead.Goals as goal

pub loop-i-preserved : goal.loop-i-preserved
loop-i-preserved c = lead_next _ _ _ _ c.loop-i.invariant c.loop-i-test.true c.leads.ensures c.if-not-leads.false
