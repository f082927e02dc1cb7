-- `moving::members::NameMarks::mark` meets its contract.
use Rattle.std.proofs.Common.{◌∙◌, arith}
use Rattle.moving.proofs.Marking.{marked, marked_stays, marked_at}
use Rattle.moving.proofs.members.NameMarks.mark.Goals as goal

pub overflow_cast-self : goal.overflow_cast-self
overflow_cast-self c = omega (arith, c.requires)

pub returns-then-not-has : goal.returns-then-not-has
returns-then-not-has c = rw (c.from.ensures, c.self.view_is) (λ xs l M. marked_at xs _ _ (omega (arith, l, c.requires)) (omega arith) M _ l
    (marked xs _ _ (omega (arith, l, c.requires)) (omega arith) M _ (c.has.ensures xs M) ∙ c.if-not-has.true))

pub returns-else-not-has : goal.returns-else-not-has
returns-else-not-has c = λ xs l M. marked_stays xs _ _ (omega (arith, l, c.requires)) (omega arith) M
    (marked xs _ _ (omega (arith, l, c.requires)) (omega arith) M _ (c.has.ensures xs M) ∙ c.if-not-has.false)
