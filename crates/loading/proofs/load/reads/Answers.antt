-- `load::reads` meets its contract: a law of Exits for each exit.
use Rattle.std.proofs.Common.{sym, ◌∙◌}
use Rattle.laws.proofs.Tests.{clash}
use Rattle.loading.proofs.Exits.{nothing_found, rules_broken, compared}
use Rattle.loading.proofs.load.reads.Goals as goal
use Rattle.loading.proofs.load.reads.Goals.{then-read_fields, else-read_fields}

pub returns-then-check : goal.returns-then-check
returns-then-check c = elim c.if-read_fields.branch [
  | then-read_fields w ↦ compared c.read_fields.ensures (sym w.check.ensures ∙ sym w.value-is ∙ c.if-check.true) _ c.gives.ensures
  | else-read_fields w ↦ absurd (clash (sym w.value-is ∙ c.if-check.true) w.if-read_fields.false)
]

pub returns-else-check : goal.returns-else-check
returns-else-check c = rw c.if-check.false (elim c.if-read_fields.branch [
  | then-read_fields w ↦ rules_broken c.read_fields.ensures (sym w.check.ensures ∙ sym w.value-is ∙ c.if-check.false)
  | else-read_fields w ↦ nothing_found c.read_fields.ensures w.if-read_fields.false
])
