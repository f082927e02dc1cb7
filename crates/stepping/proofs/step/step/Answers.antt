-- `step::step` meets its contract: the event accepted, or refused.
use Rattle.std.proofs.Common.{sym, refl, ap, ◌∙◌}
use Rattle.rules.specs.Refused.{refusal_told}
use Rattle.laws.specs.Words.{Event}
use Rattle.laws.proofs.Decoded.{decode_proper}
use Rattle.rules.specs.Refusals.{refusal}
use Rattle.store.specs.Store.{limits, tables}
use Rattle.stepping.proofs.Stepping.{acted, accepted, refused, some_number}
use Rattle.stepping.proofs.step.step.Goals as goal

pub act-given-requires : goal.act-given-requires
unfolding refusal_told
act-given-requires c =
    let a = c.in-Ok.ensures in
    (c.requires, a.asks, rw a.meant (sym a.told), rw (a.meant, c.decode-e.ensures) (decode_proper _))

pub dispatch-handed-requires : goal.dispatch-handed-requires
unfolding refusal_told
dispatch-handed-requires c =
    let a = c.in-Ok.ensures in
    acted _ c.requires (rw a.meant (sym a.told)) c.act-given.ensures

pub returns-in-Ok : goal.returns-in-Ok
unfolding refusal_told
returns-in-Ok c =
    let a = c.in-Ok.ensures in
    accepted c.requires _ _ (a.meant ∙ c.decode-e.ensures) _ (a.told ∙ ap (λ (e : Event). refusal (limits c.args.m.now) (tables c.args.m.now) e) (sym a.meant)) _ refl c.act-given.ensures
    c.dispatch-handed.ensures c.decided.ensures

pub returns-in-Err : goal.returns-in-Err
unfolding refusal_told
returns-in-Err c =
    refused c.requires _ _ c.decode-e.ensures _ (c.from.ensures ∙ c.in-Err.ensures.told) _ (rw c.from.ensures (some_number c.in-Err.r))
    c.decided-in-Err.ensures
