-- `passes::cut_short` meets its contract: the first wrong length, or the end.
use Rattle.std.proofs.Common.{Bool, ap, ◌∙◌, length, rules}
use Rattle.std.specs.Bool.{then_some}
use Rattle.faults.proofs.Passing.{wrong_found, first_wrong, none_wrong}
use Rattle.faults.proofs.passes.cut_short.Goals as goal

pub returns-in-Some : goal.returns-in-Some
returns-in-Some c =
    first_wrong _ _ (wrong_found c.args.bytes c.new-fields.result _ _ _ c.new-fields.ensures c.in-Some.ensures.ran (λ x b q e. search rules))

pub returns-in-None : goal.returns-in-None
returns-in-None c =
    let ran = c.in-None.ensures.ran in
    let none = wrong_found c.args.bytes c.new-fields.result _ _ _ c.new-fields.ensures ran (λ x b q e. search rules) in
    c.then_some.ensures
    ∙ (ap (λ (b : Bool). then_some b (length c.args.bytes.now)) c.ends_badly.ensures
    ∙ none_wrong _ _ _ ran.0 c.new-fields.ensures ran.2 none)
