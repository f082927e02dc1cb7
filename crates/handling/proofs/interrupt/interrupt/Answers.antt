-- `interrupt::interrupt` meets its contract: the one waiter of the device is woken, or there is none and the word is held.
use Rattle.std.proofs.Common.{◌≡◌, true, sym, ◌∙◌}
use Rattle.rules.specs.Lists.{any}
use Rattle.rules.specs.Interrupt.{held_for}
use Rattle.store.proofs.Limits.{some_word}
use Rattle.laws.proofs.Single.{interrupt_holds}
use Rattle.store.specs.Store.{tables}
use Rattle.handling.proofs.Leaving.{in_words}
use Rattle.handling.proofs.Interrupting.{held_low, held_waiter, no_waiter, waiter_room, waiter_wakes}
use Rattle.handling.proofs.interrupt.interrupt.Goals as goal

pub hold-requires : goal.hold-requires
hold-requires c =
    (c.requires.0.holding, c.requires.1, held_low (tables c.args.m.now) c.requires.0.ruled)

pub returns-then-is_some : goal.returns-then-is_some
returns-then-is_some c =
    let T = tables c.args.m.now in
    let there : any (held_for c.args.d) T.held ≡ true = sym (some_word c.args.d T.held) ∙ cc in
    in_words (sym (interrupt_holds T c.args.d c.args.word (held_waiter T c.requires.0.ruled c.args.d there))) c.hold.ensures

pub hold-requires-in_default : goal.hold-requires-in_default
hold-requires-in_default c =
    (c.requires.0.holding, c.requires.1, held_low (tables c.args.m.now) c.requires.0.ruled)

pub wake-requires : goal.wake-requires
wake-requires c =
    (c.requires.0.holding, waiter_room (tables c.args.m.now) c.requires.0.ruled c.args.d _ (sym c.waiter.ensures ∙ c.in-Some.is))

pub returns-in_default : goal.returns-in_default
returns-in_default c =
    let T = tables c.args.m.now in
    in_words
    (sym (interrupt_holds T c.args.d c.args.word
    (no_waiter T c.requires.0.ruled c.args.d (sym c.waiter.ensures ∙ c.in_default.is))))
    c.hold-in_default.ensures

pub returns-in-Some : goal.returns-in-Some
returns-in-Some c =
    in_words
    (waiter_wakes (tables c.args.m.now) c.requires.0.ruled c.args.d _ (sym c.waiter.ensures ∙ c.in-Some.is) c.args.word)
    c.wake.ensures
