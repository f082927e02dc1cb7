-- `opening::value_at` meets its contract: no field, or its value.
use Rattle.std.proofs.Common.{arith, refl}
use Rattle.loading.proofs.Cutting.{seen, field_within, no_field, one_field}
use Rattle.loading.proofs.opening.value_at.Goals as goal

pub returns-then-not-opens : goal.returns-then-not-opens
returns-then-not-opens c = no_field _ _ _ _ (seen _ _ c.args.bytes.now c.args.at c.opens.ensures c.if-not-opens.true)

pub slice_bounds-result-end : goal.slice_bounds-result-end
slice_bounds-result-end c =
    omega (arith, c.from.ensures, field_within c.args.tag c.args.size c.args.bytes.now c.args.at (seen _ _ c.args.bytes.now c.args.at c.opens.ensures c.if-not-opens.false))

pub returns : goal.returns
returns c = one_field _ _ _ _ (seen _ _ c.args.bytes.now c.args.at c.opens.ensures c.if-not-opens.false) _ _ c.from.ensures refl
