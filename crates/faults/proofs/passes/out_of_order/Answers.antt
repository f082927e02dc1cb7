-- `passes::out_of_order` meets its contract: what stood before a field tells what the rules ask of it.
use Rattle.std.proofs.Common.{◌≡◌, option_map, rules, ◌∙◌}
use Rattle.rules.specs.Faults.{misplaced, faults_16}
use Rattle.faults.specs.Order.{misplaced_behind}
use Rattle.faults.proofs.Behind.{placed_behind}
use Rattle.faults.proofs.Passing.{first_found}
use Rattle.faults.proofs.passes.out_of_order.Goals as goal

pub returns : goal.returns
unfolding faults_16
returns c =
    let at : c.map.result ≡ option_map (λ f. f.at) c.find-first.result = search rules in
    at ∙ first_found misplaced (λ f. misplaced_behind f.before f.field.tag) placed_behind
    c.args.bytes c.new.result _ _ _ c.new.ensures c.find-first.ensures.ran (λ x b q e. search rules)
