-- `threads::waiter` meets its contract.
use Rattle.std.proofs.Common.{ℕ, ap, ◌∙◌, Option, Some, option_map}
use Rattle.rules.specs.States.{waits_for}
use Rattle.laws.specs.Words.{Thread}
use Rattle.store.proofs.Searched.{one_found, none_found}
use Rattle.store.proofs.threads.waiter.Goals as goal

pub returns-in_err-i : goal.returns-in_err-i
returns-in_err-i c =
    c.from_residual.ensures
    ∙ ap (λ (o : Option Thread). option_map (λ t. t.name) o)
    (none_found c.args.m.now c.requires (waits_for c.args.d) c.find_waiter.ensures c.in_err-i.was)

pub returns : goal.returns
returns c =
    ap (λ (n : ℕ). Some n) c.name.ensures
    ∙ (ap (λ (t : Thread). Some t.name) c.record.ensures
    ∙ ap (λ (o : Option Thread). option_map (λ t. t.name) o)
    (one_found c.args.m.now c.requires (waits_for c.args.d) c.find_waiter.ensures c.in_ok-i.was))
