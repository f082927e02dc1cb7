-- `requests::next_name` meets its contract: what is found behind the name given last is the next name, or the walk comes round.
use mathlib.Core.Path.{◌∙◌}
use Rattle.serving.proofs.Naming.{found_above, comes_round}
use Rattle.serving.proofs.requests.next_name.Goals as goal

pub returns-then-name-eq0 : goal.returns-then-name-eq0
returns-then-name-eq0 c =
    c.free_behind.ensures ∙ comes_round c.args.m.now c.requires _ _ c.last.ensures
    c.free_behind-name.ensures c.if-name-eq0.true

pub returns-else-name-eq0 : goal.returns-else-name-eq0
returns-else-name-eq0 c =
    found_above c.args.m.now c.requires _ _ c.last.ensures c.free_behind-name.ensures c.if-name-eq0.false
