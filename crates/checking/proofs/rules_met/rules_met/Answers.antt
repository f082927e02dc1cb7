-- `rules_met::rules_met` meets its contract: the rules are asked in groups.
use Rattle.std.proofs.Common.{◌≡◌, ◌&&◌, ℕ, List, sym, subst, ◌∙◌, arith}
use Rattle.std.proofs.lemmas.Grind.{common_steps}
use Rattle.rules.specs.TableRules.{devices_right}
use Rattle.store.specs.Store.{tables, limits}
use Rattle.indexing.specs.Index.{Once}
use Rattle.checking.proofs.Together.{rows, on_places, on_messages, on_threads, broken_rows, in_groups, names_once}
use Rattle.checking.proofs.rules_met.rules_met.Goals as goal

pub returns-then-not-rows_right : goal.returns-then-not-rows_right
returns-then-not-rows_right c = broken_rows _ _ (sym c.rows_right.ensures ∙ c.if-not-rows_right.true)

pub places_right-requires : goal.places_right-requires
places_right-requires c =
    subst (λ (v : List ℕ). Once v) (sym c.of-x.ensures) (names_once (limits c.args.m.now) (tables c.args.m.now)
    (sym c.rows_right.ensures ∙ c.if-not-rows_right.false))

pub messages_met-requires : goal.messages_met-requires
messages_met-requires c =
    subst (λ (v : List ℕ). Once v) (sym c.of-x.ensures) (names_once (limits c.args.m.now) (tables c.args.m.now)
    (sym c.rows_right.ensures ∙ c.if-not-rows_right.false))

pub returns-then-messages_met : goal.returns-then-messages_met
returns-then-messages_met c =
    let L = limits c.args.m.now in
    let T = tables c.args.m.now in
    let e : c.threads_right.result ≡ (rows L T && on_places L T && devices_right T && on_messages L T && on_threads L T) =
    grind (arith, common_steps) in
    e ∙ in_groups L T

pub returns-else-messages_met : goal.returns-else-messages_met
returns-else-messages_met c =
    let L = limits c.args.m.now in
    let T = tables c.args.m.now in
    let e : c.if-devices_right.value ≡ (rows L T && on_places L T && devices_right T && on_messages L T && on_threads L T) =
    grind (arith, common_steps) in
    e ∙ in_groups L T
