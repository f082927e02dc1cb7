-- `passes::names_nobody` meets its contract: the marks say which names live.
use Rattle.std.proofs.Common.{ℕ, Bool, ◌≡◌, option_map, rules, sym, ap, ◌∙◌}
use Rattle.rules.specs.Tables.{live}
use Rattle.rules.specs.Load.{told}
use Rattle.rules.specs.Faults.{names_nobody as names_nobody_of, faults_18}
use Rattle.faults.specs.Names.{lives_in}
use Rattle.faults.proofs.Passing.{first_found}
use Rattle.faults.proofs.passes.names_nobody.Goals as goal

pub returns : goal.returns
unfolding faults_18
returns c =
    let at : c.map.result ≡ option_map (λ f. f.at) c.find-first.result = search rules in
    at ∙ first_found (λ f. names_nobody_of (λ n. live n (told c.args.bytes.now)) f.field) (λ f. names_nobody_of (lives_in c.args.living.now) f.field) (λ at tags b f t. ap (λ (lives : ℕ → Bool). names_nobody_of lives f) (sym c.requires.so))
    c.args.bytes c.new.result _ _ _ c.new.ensures c.find-first.ensures.ran (λ x b q e. search rules)
