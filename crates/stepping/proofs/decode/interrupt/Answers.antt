-- `decode::interrupt` meets its contract: by the refusal of the pick.
use borrow.Author.Tests.{eq-eqb, ne_eqb}
use Rattle.rules.specs.Events.{interrupt_of}
use Rattle.stepping.proofs.decode.interrupt.Goals as goal

pub returns-then-p-eq0 : goal.returns-then-p-eq0
unfolding interrupt_of
returns-then-p-eq0 c = rw (← c.pick-p.ensures, eq-eqb c.pick-p.result.refusal 0 c.if-p-eq0.true)

pub returns-else-p-eq0 : goal.returns-else-p-eq0
unfolding interrupt_of
returns-else-p-eq0 c = rw (← c.pick-p.ensures, ne_eqb c.pick-p.result.refusal 0 c.if-p-eq0.false)
