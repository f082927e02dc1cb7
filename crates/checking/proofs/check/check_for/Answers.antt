-- `check::check_for` meets its contract: the rules are asked of a memory that is shaped right.
use Rattle.std.proofs.Common.{refl, sym, ap, ◌∙◌}
use Rattle.laws.specs.Words.{Limits}
use Rattle.rules.specs.TableRules.{table_rules}
use Rattle.store.specs.Store.{tables}
use Rattle.checking.specs.Stands.{stands}
use Rattle.laws.proofs.Both.{fails_first, and_then}
use Rattle.checking.proofs.Shapes.{own_limits, shaped_right}
use Rattle.checking.proofs.check.check_for.Goals as goal

pub rules_met-requires : goal.rules_met-requires
rules_met-requires c =
    shaped_right c.args.l c.args.m.now (sym c.shaped.ensures ∙ c.if-shaped.true) c.requires.0 c.requires.1

pub returns-then-shaped : goal.returns-then-shaped
unfolding stands
returns-then-shaped c =
    let e = sym c.shaped.ensures ∙ c.if-shaped.true in
    c.rules_met.ensures ∙ (ap (λ (l : Limits). table_rules l (tables c.args.m.now))
    (own_limits c.args.l c.args.m.now e) ∙ sym (and_then e refl))

pub returns-else-shaped : goal.returns-else-shaped
unfolding stands
returns-else-shaped c = c.if-shaped.false ∙ sym (fails_first _ (sym c.shaped.ensures ∙ c.if-shaped.false))
