-- `filling::clear` meets its contract: a lent memory keeps its length.
use Rattle.std.proofs.Common.{◌≡◌, length, rules}
use Rattle.store.specs.Store.{limits, tables}
use Rattle.store.proofs.Filled.{empty}
use Rattle.store.proofs.filling.clear.Goals as goal

pub returns : goal.returns
unfolding tables limits
returns c =
    let e = c.clear.ensures in
    let l : length c.clear.new.m ≡ length c.args.m.now = search rules in
    (e.0, e.1, empty c.clear.new.m _ _ c.requires l e.0 e.1 e.2 e.3 e.4 e.5)
