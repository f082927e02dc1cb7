-- `rules::pick::pick` meets its contract: each answer is a law of Bits.antt or Masks.antt at the word's size. The `refl`s compute that a
-- mask of src/pick.rt leaves the devices of its class, and the last one that the three masks leave no device out.
use mathlib.Core.Path.{refl, sym, ap, ◌∙◌}
use native.Mathlib.Omega.{arith}
use Rattle.rules.specs.Lists.{any, keep, from_on}
use Rattle.rules.specs.Pick.{pick as pick_of}
use Rattle.rules.proofs.Bits.{pick_zero, pick_high}
use Rattle.rules.proofs.Masks.{of_lines, of_transmitters, of_receivers}
use Rattle.rules.proofs.pick.pick.Goals as goal

pub returns-then-pending-eq0 : goal.returns-then-pending-eq0
returns-then-pending-eq0 c = sym (ap pick_of c.if-pending-eq0.true ∙ pick_zero)

pub returns-then-pending-ge-PAST_DEVICES : goal.returns-then-pending-ge-PAST_DEVICES
returns-then-pending-ge-PAST_DEVICES c = sym (pick_high c.args.pending (omega arith) (omega arith))

pub returns-then-pending-ne0 : goal.returns-then-pending-ne0
unfolding keep from_on
returns-then-pending-ne0 c =
    let w = c.args.pending in
    of_lines w (omega arith) _ c.lowest.ensures (omega arith) refl

pub returns-then-pending-ne0-2 : goal.returns-then-pending-ne0-2
unfolding keep from_on
returns-then-pending-ne0-2 c =
    let w = c.args.pending in
    of_transmitters w (omega arith) _ _ c.lowest-then-pending-ne0-2.ensures c.if-pending-ne0.false (omega arith) refl refl

pub returns : goal.returns
unfolding any keep from_on
returns c =
    let w = c.args.pending in
    of_receivers w (omega arith) _ _ _ c.lowest-2.ensures c.if-pending-ne0.false c.if-pending-ne0-2.false (omega arith) refl refl
    refl refl
