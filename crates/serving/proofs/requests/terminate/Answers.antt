-- `requests::terminate` meets its contract: a target that is not refused lives.
use mathlib.Core.Path.{refl, sym, ap, ◌∙◌}
use Rattle.rules.specs.Refusals.{ends_nobody}
use Rattle.rules.specs.Requests.{terminate}
use Rattle.laws.proofs.Tests.{not_false}
use Rattle.store.specs.Store.{tables}
use Rattle.serving.proofs.Asking.{by_target}
use Rattle.serving.proofs.requests.terminate.Goals as goal

pub end-requires-in-Named : goal.end-requires-in-Named
unfolding ends_nobody
end-requires-in-Named c = (c.requires.0, not_false _ (ap (ends_nobody (tables _)) (sym c.in-Named.is) ∙ c.requires.2))

pub returns-in-Oneself : goal.returns-in-Oneself
unfolding terminate
returns-in-Oneself c = by_target c.end.ensures _ _ c.in-Oneself.is refl

pub returns-in-Named : goal.returns-in-Named
unfolding terminate
returns-in-Named c = by_target c.end-in-Named.ensures _ _ c.in-Named.is refl
