-- `lines::decimal::put_spaced` meets its contract: the space, then the number into the part behind it.
use Prim.Native.Nat.{ℕ, ◌≤◌}
use mathlib.Core.List.{List, [], ◌∷◌}
use native.Mathlib.Omega.{arith}
use lib.ListN.{length, set, length-set}
use Rattle.buffer.specs.Puts.{Puts}
use Rattle.buffer.proofs.Putting.{puts_none, one_more, behind, room, stays_long}
use Rattle.lines.proofs.Numerals.{few_digits}
use Rattle.lines.proofs.decimal.put_spaced.Goals as goal

-- the space
space : (before : List ℕ) → 21 ≤ length before → Puts (32 ∷ []) before (set before 0 32) 1
space before h = one_more (puts_none before) 32 (omega arith)

pub slice_bounds-put_decimal-count : goal.slice_bounds-put_decimal-count
slice_bounds-put_decimal-count c = simp length-set (omega arith)

pub slice_bounds-put_decimal-start : goal.slice_bounds-put_decimal-start
slice_bounds-put_decimal-start c = simp length-set (omega arith)

pub put_decimal-requires : goal.put_decimal-requires
put_decimal-requires c = omega (arith, room (space c.args.out.now c.requires))

pub overflow_add-result : goal.overflow_add-result
overflow_add-result c =
    let n = c.args.n in
    omega (arith, c.put_decimal.ensures.counts, few_digits 20 n)

pub shape_of-out : goal.shape_of-out
shape_of-out c =
    let whole = behind (space c.args.out.now c.requires) c.put_decimal.ensures in
    stays_long whole (omega (arith, few_digits 20 c.args.n))

pub returns : goal.returns
returns c =
    behind (space c.args.out.now c.requires) c.put_decimal.ensures
