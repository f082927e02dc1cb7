-- `threads::turn` meets its contract.
use Rattle.std.proofs.Common.{refl}
use Rattle.rules.specs.Tables.{in_state}
use Rattle.store.proofs.Searched.{changed, changed_hinted, unchanged}
use Rattle.store.proofs.threads.turn.Goals as goal

pub returns-then-wakes_from_outside : goal.returns-then-wakes_from_outside
returns-then-wakes_from_outside c =
    changed_hinted c.args.m.now c.requires _ c.find.ensures (in_state c.args.s c.args.a) (λ t. refl) _ c.in-Some.is c.turn.ensures
    c.hint_waiter.ensures

pub returns-else-wakes_from_outside : goal.returns-else-wakes_from_outside
returns-else-wakes_from_outside c =
    changed c.args.m.now c.requires _ c.find.ensures (in_state c.args.s c.args.a) (λ t. refl) c.in-Some.is c.turn.ensures

pub returns-in_default : goal.returns-in_default
returns-in_default c =
    unchanged c.args.m.now c.requires _ c.find.ensures (in_state c.args.s c.args.a) (λ t. refl) c.in_default.not-Some
