-- `reading::read_fields` meets its contract: no head, or a head in a cleared memory and the rest behind it.
use mathlib.Core.Path.{sym, ◌∙◌}
use Rattle.loading.proofs.Cutting.{opens_room}
use Rattle.loading.proofs.Finding.{not_headed, head_empty, all_found}
use native.Mathlib.Omega.{arith}
use Rattle.loading.proofs.reading.read_fields.Goals as goal

pub returns-then-not-opens : goal.returns-then-not-opens
returns-then-not-opens c = not_headed _ _ (sym c.opens.ensures ∙ c.if-not-opens.true)

pub clear-requires : goal.clear-requires
clear-requires c = record { long = c.requires; low = omega arith; few = omega arith }

pub read_head-requires : goal.read_head-requires
read_head-requires c = (
  c.clear.ensures.2,
  omega (
    arith,
    (opens_room 1 9 c.args.bytes.now
        (sym c.opens.ensures
        ∙ c.if-not-opens.false)).1,
  ),
)

pub read_rest-requires : goal.read_rest-requires
read_rest-requires c = (
  record {
    shaped = c.read_head.ensures.holding.shaped;
    limits = c.read_head.ensures.same
        ∙ c.clear.ensures.1;
  },
  head_empty c.args.bytes.now
      c.read_head.ensures c.clear.ensures.0,
  omega (
    arith,
    (opens_room 1 9
        c.args.bytes.now
        (sym c.opens.ensures
        ∙ c.if-not-opens.false)).1,
  ),
)

pub shape_of-m : goal.shape_of-m
shape_of-m c = c.read_rest.auto.m
    ∙ (c.read_head.auto.m
    ∙ c.clear.auto.m)

pub returns : goal.returns
returns c =
    all_found
    c.args.bytes.now c.read_head.ensures _ _ c.read_rest.ensures
