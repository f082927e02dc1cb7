-- `nucleus_sizes` meets its contract: the layout of each struct, computed.
use mathlib.Core.Path.{refl}
use Rattle.board.specs.Layout.{end_of, largest_align, struct, array, lent_tables, report, sizes_of}
use Rattle.board.proofs.nucleus_sizes.Goals as goal

pub returns : goal.returns
unfolding end_of largest_align struct array lent_tables report sizes_of
returns c = refl
