-- `threads::thread` meets its contract.
use Rattle.std.proofs.Common.{ap, ◌∙◌, Some}
use Rattle.rules.specs.Tables.{named}
use Rattle.laws.specs.Words.{Thread}
use Rattle.store.proofs.Searched.{one_found, none_found}
use Rattle.store.proofs.threads.thread.Goals as goal

pub returns-in_err-i : goal.returns-in_err-i
returns-in_err-i c =
    c.from_residual.ensures ∙ none_found c.args.m.now c.requires.shaped (named c.args.name) c.find.ensures c.in_err-i.was

pub returns : goal.returns
returns c =
    ap (λ (t : Thread). Some t) c.record.ensures
    ∙ one_found c.args.m.now c.requires.shaped (named c.args.name) c.find.ensures c.in_ok-i.was
