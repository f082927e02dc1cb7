-- `field_end`: a field inside the bytes ends behind its place, and within them.
use Rattle.fields.proofs.Sizes.{inside}
use Rattle.gauge.proofs.field_end.Goals as goal

pub returns : goal.returns
returns c = let i = inside c.args.s.now c.args.at c.cut_at.result c.requires c.cut_at.ensures in (i.behind, i.within)
