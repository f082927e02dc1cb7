-- `writing::count_held` meets its contract. The loop: the held words of the devices passed are counted.
use Rattle.std.proofs.Common.{arith, length, ◌+◌, length-append, sym, ap, ◌∙◌}
use Rattle.store.specs.Store.{tables}
use Rattle.dumping.specs.Dumping.{held_at}
use Rattle.dumping.proofs.Walks.{below, none_passed, one_passed, last_passed, few_passed, held_few}
use Rattle.dumping.proofs.Puttings.{held_counted}
use Rattle.dumping.proofs.writing.count_held.Goals as goal

pub loop-d-init : goal.loop-d-init
loop-d-init c = sym (ap length (none_passed c.requires))

pub overflow_add-n : goal.overflow_add-n
unfolding tables
overflow_add-n c = let hs = (tables c.args.m.now).held in omega (
  arith,
  c.loop-d.invariant,
  held_counted _ _ c.held.ensures c.is_some.ensures c.from-n.ensures,
  ap length (one_passed c.requires c.loop-d.d),
  length-append (below c.loop-d.d hs) (held_at c.loop-d.d hs),
  few_passed c.requires (c.loop-d.d + 1),
  held_few c.requires,
)

pub loop-d-preserved : goal.loop-d-preserved
unfolding tables
loop-d-preserved c = let hs = (tables c.args.m.now).held in omega (
  arith,
  c.loop-d.invariant,
  held_counted _ _ c.held.ensures c.is_some.ensures c.from-n.ensures,
  ap length (one_passed c.requires c.loop-d.d),
  length-append (below c.loop-d.d hs) (held_at c.loop-d.d hs),
)

pub returns : goal.returns
returns c = c.loop-d.invariant ∙ ap length (last_passed c.requires (omega (arith, c.loop-d-test.false, c.loop-d.auto.d-end)))
