-- `passes::out_of_range` meets its contract: the test is the rules' own.
use Rattle.std.proofs.Common.{◌≡◌, option_map, rules, refl, ◌∙◌}
use Rattle.rules.specs.Faults.{out_of_range as out_of_range_of, faults_17}
use Rattle.faults.proofs.Passing.{first_found}
use Rattle.faults.proofs.passes.out_of_range.Goals as goal

pub returns : goal.returns
unfolding faults_17
returns c =
    let at : c.map.result ≡ option_map (λ f. f.at) c.find-first.result = search rules in
    at ∙ first_found (λ f. out_of_range_of f.field) (λ f. out_of_range_of f.field) (λ at tags b f t. refl)
    c.args.bytes c.new.result _ _ _ c.new.ensures c.find-first.ensures.ran (λ x b q e. search rules)
