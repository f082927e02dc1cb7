-- `requests::wait_for_io` meets its contract: a held word is taken at once, else the runner stops.
use Rattle.std.proofs.Common.{sym, ap, ◌∙◌, is_some}
use Rattle.handling.proofs.Interrupting.{held_low}
use Rattle.store.proofs.Limits.{some_word, which_word}
use Rattle.store.specs.Store.{tables}
use Rattle.serving.proofs.Asking.{word_taken, word_missing}
use Rattle.serving.proofs.requests.wait_for_io.Goals as goal

pub clear_held-requires : goal.clear_held-requires
clear_held-requires c = (c.requires.0.holding, c.requires.1, held_low _ c.requires.0.ruled)

pub returns-in-Some : goal.returns-in-Some
returns-in-Some c =
    let e = sym c.word_held.ensures ∙ c.in-Some.is in
    let hs = (tables c.args.m.now).held in
    word_taken _ _ _ c.requires.0 (sym (some_word c.args.d hs) ∙ ap is_some e) (which_word c.args.d _ hs e) c.clear_held.ensures

pub returns : goal.returns
returns c =
    word_missing _ _ (sym (some_word c.args.d (tables c.args.m.now).held) ∙ ap is_some (sym c.word_held.ensures ∙ c.in_default.is)) c.stop.ensures
