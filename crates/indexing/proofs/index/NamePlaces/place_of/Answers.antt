-- `NamePlaces::place_of` meets its contract: the look-up law of the places.
use Rattle.std.proofs.Common.{ℕ, ap, ◌∙◌, get_or, arith}
use Rattle.indexing.proofs.Indexing.{look_position}
use Rattle.indexing.proofs.index.NamePlaces.place_of.Goals as goal

pub returns : goal.returns
returns c = rw (← c.self.view_is) (c.then_some.ensures ∙ look_position _ _ c.self.invariant.indexed _ (omega arith) _ _
    (c.from-i.ensures ∙ ap (λ (k : ℕ). get_or c.self.inside.at k 0) c.from.ensures) c.self.invariant.many)
