-- `tests::index` is safe: a memory that is shaped, with names that rise, shows each name once at most.
use Rattle.std.proofs.Common.{rules, sym, ◌∙◌, arith}
use borrow.Author.Tests.{tests}
use Rattle.laws.proofs.Tests.{three}
use Rattle.laws.proofs.Ordered.{up_once}
use Rattle.rules.specs.Numbers.{small}
use Rattle.store.specs.Store.{tables}
use Rattle.checking.proofs.Shapes.{shaped_right}
use Rattle.checking.proofs.tests.index.Goals as goal

pub names_right-requires : goal.names_right-requires
names_right-requires g c = shaped_right small c.args.m.now (sym c.shaped.ensures ∙ search (rules, tests)) (omega arith) (omega arith)

pub of-requires : goal.of-requires
of-requires g c = (
  shaped_right small c.args.m.now (sym c.shaped.ensures ∙ search (rules, tests)) (omega arith) (omega arith),
  λ n. up_once (λ t. t.name) n (tables c.args.m.now).threads (three _ _ _ (sym c.names_right.ensures ∙ search (rules, tests))).0,
)
