-- `next` of the iterator `Fields` meets its contract: the first of the fields that are still to come.
use Rattle.std.proofs.Common.{sym, ap, ◌∙◌}
use borrow.Author.Tests.{not-true, not-false}
use Rattle.fields.specs.declared.Cut.{Cut}
use Rattle.faults.proofs.Standing.{gives_none, gives_next}
use Rattle.faults.proofs.placed.FieldsIterator.next.Goals as goal

pub returns-then-not-c-clause-steps : goal.returns-then-not-c-clause-steps
returns-then-not-c-clause-steps c =
    gives_none c.args.self.now (sym (ap (λ (x : Cut). x.whole) c.cut_at-c.ensures) ∙ not-true _ c.if-not-c.true)

pub returns-clause-steps : goal.returns-clause-steps
returns-clause-steps c =
    rw (c.after-self.ensures, c.tag.ensures, c.cut_at-c.ensures)
    (gives_next c.args.self.now (sym (ap (λ (x : Cut). x.whole) c.cut_at-c.ensures) ∙ not-false _ c.if-not-c.false))
