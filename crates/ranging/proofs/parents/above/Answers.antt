-- `parents::above` meets its contract, case by case.
use Rattle.std.proofs.Common.{ℕ, Option, sym, ap, ◌∙◌}
use Rattle.std.specs.Option.{unwrap_or}
use Rattle.store.specs.Store.{tables}
use Rattle.indexing.proofs.Passing.{read_length}
use Rattle.ranging.proofs.Raising.{above_top, above_none, above_zero, above_found}
use Rattle.ranging.proofs.parents.above.Goals as goal

pub returns-in-None : goal.returns-in-None
returns-in-None c = sym (above_none _ _ _ _ c.if-name-ne0.true c.in-None.is)

pub returns-in-None-2 : goal.returns-in-None-2
unfolding tables
returns-in-None-2 c = rw (← c.words.ensures.same) (sym (above_top _ _ _ _ c.if-name-ne0.false c.in-None.is
    ∙ read_length c.words.result.now c.words.ensures.shaped _ c.count.ensures))

pub returns-in-Some : goal.returns-in-Some
returns-in-Some c = c.unwrap_or.ensures ∙ ap (λ (o : Option ℕ). unwrap_or o c.args.i) c.place_of.ensures
    ∙ above_found _ _ _ _ _ c.if-name-ne0-2.true c.in-Some.is

pub returns-in-Some-2 : goal.returns-in-Some-2
returns-in-Some-2 c = sym (above_zero _ _ _ _ _ c.if-name-ne0-2.false c.in-Some.is)
