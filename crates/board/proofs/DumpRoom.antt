-- What `nucleus_sizes` says of a dump is enough for every one.
use Prim.Native.Nat.{ℕ, ◌≤◌}
use mathlib.Core.Path.{◌≡◌}
use mathlib.Core.Bool.{true}
use mathlib.Core.List.{List}
use lib.ListN.{length}
use Rattle.rules.specs.Dump.{dump}
use Rattle.store.specs.Store.{tables}
use Rattle.loading.proofs.Exits.{writable}
use Rattle.lending.specs.Lent.{valid}
use Rattle.board.specs.Layout.{sizes_of}

-- "1,241 bytes always suffice."
pub dump_has_room : (m : List ℕ) → valid m ≡ true → length (dump (tables m)) ≤ sizes_of.dump
unfolding sizes_of
dump_has_room m v = (writable m v).1
