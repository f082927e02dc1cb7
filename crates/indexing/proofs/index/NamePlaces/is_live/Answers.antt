-- `NamePlaces::is_live` meets its contract: a name is live where it has a place.
use Rattle.std.proofs.Common.{ap, ◌∙◌}
use Rattle.std.specs.Option.{is_some}
use Rattle.indexing.proofs.Indexing.{position_any}
use Rattle.indexing.proofs.index.NamePlaces.is_live.Goals as goal

pub returns : goal.returns
returns c = c.is_some.ensures ∙ ap is_some c.place_of.ensures ∙ position_any _ _
