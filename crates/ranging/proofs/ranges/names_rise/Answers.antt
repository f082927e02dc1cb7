-- `ranges::names_rise` meets its contract.
use Rattle.std.proofs.Common.{ap, ◌∙◌, ltb, rules, Bool}
use Rattle.rules.specs.Lists.{chain}
use Rattle.laws.specs.Words.{Thread}
use Rattle.store.specs.Store.{tables}
use Rattle.ranging.proofs.Neighbours.{neighbours}
use Rattle.ranging.proofs.ranges.names_rise.Goals as goal

pub returns : goal.returns
unfolding tables
returns c = let q : Thread → Thread → Bool = λ t u. ltb t.name u.name in
    let w = c.is_sorted_by.ensures.runs in
    neighbours (λ s. s) _ q _ (w.0, w.1, (w.2.0, w.2.1 q (search rules))) ∙ ap (chain q) c.threads.ensures
