-- `threads::set_manager` meets its contract.
use Rattle.std.proofs.Common.{refl}
use Rattle.rules.specs.Tables.{with_managers, set_entry}
use Rattle.store.proofs.Searched.{changed, unchanged}
use Rattle.store.proofs.threads.set_manager.Goals as goal

pub returns-in-Some : goal.returns-in-Some
returns-in-Some c =
    changed c.args.m.now c.requires _ c.find.ensures (λ t. with_managers (set_entry c.args.k c.args.g t.managers) t) (λ t. refl) c.in-Some.is
    c.set_manager.ensures

pub returns-in_default : goal.returns-in_default
returns-in_default c =
    unchanged c.args.m.now c.requires _ c.find.ensures (λ t. with_managers (set_entry c.args.k c.args.g t.managers) t) (λ t. refl)
    c.in_default.not-Some
