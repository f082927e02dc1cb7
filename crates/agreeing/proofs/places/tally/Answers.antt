-- `places::tally` meets its contract. The loop: the counts of the names passed.
use Rattle.std.proofs.Common.{◌∷◌, ap, refl, length, length-append, ◌∙◌, subst, ℕ, List, ◌≡◌, get_or, arith}
use Rattle.rules.specs.Lists.{times_in}
use Rattle.indexing.proofs.Marking.{walk_here, walk_next, walk_ends}
use Rattle.indexing.proofs.Tallying.{tally_starts, tally_next, tally_low}
use Rattle.agreeing.proofs.places.tally.Goals as goal

pub loop-k-init : goal.loop-k-init
loop-k-init c = (tally_starts, refl)

pub overflow_add-c : goal.overflow_add-c
overflow_add-c c = omega (
  arith,
  tally_low c.loop-k.c c.loop-k.yielded c.in-Some.k c.loop-k.invariant.0 (omega arith) c.from.result c.from.ensures,
  ap length (walk_here c.loop-k.yielded c.loop-k.invariant.1 c.in-Some.k c.next.new.self c.in-Some.ensures.steps),
  length-append c.loop-k.yielded (c.in-Some.k ∷ c.next.new.self),
  ap length c.into_iter-k-iterator.ensures.into_iter_gives,
)

pub loop-k-preserved : goal.loop-k-preserved
loop-k-preserved c = (
  tally_next _ _ _ c.loop-k.invariant.0 (omega arith) _ c.from.ensures,
  walk_next _ c.loop-k.invariant.1 _ _ c.in-Some.ensures.steps,
)

pub returns : goal.returns
returns c = subst (λ (l : List ℕ). (k : ℕ) → get_or c.loop-k.c k 0 ≡ times_in l k)
    (walk_ends _ c.loop-k.invariant.1 c.in-None.ensures.steps.0 ∙ c.into_iter-k-iterator.ensures.into_iter_gives) c.loop-k.invariant.0.so
