-- `close` meets its contract: a round that adds nobody is the last, and any other leaves fewer threads outside the set.
use mathlib.Core.Path.{sym, ◌∙◌}
use native.Mathlib.Omega.{arith}
use Rattle.laws.proofs.Closure.{falls as joins_fall}
use Rattle.store.specs.Store.{tables, found}
use Rattle.serving.proofs.EndingRounds.{last_round, fewer_outside, room_stays, round_more}
use Rattle.serving.proofs.ending.+close.Goals as goal

pub grow_ended-requires : goal.grow_ended-requires
grow_ended-requires t c = (
  c.requires.0,
  omega (
    arith,
    c.requires.1,
    joins_fall (tables c.args.m.now).threads (found c.args.m.now),
  ),
  c.requires.2,
)

pub returns-then-ended_count-before : goal.returns-then-ended_count-before
returns-then-ended_count-before t c = (
  last_round c.grow_ended.ensures.0 (sym c.ended_count.ensures
      ∙ (c.if-ended_count-before.true ∙ c.ended_count-before.ensures)),
  c.grow_ended.ensures.1,
)

pub close-requires : goal.close-requires
close-requires t c = let g = c.grow_ended.ensures.0 in (
  rw c.decreases at
      (fewer_outside g (λ e. c.if-ended_count-before.false (c.ended_count.ensures
      ∙ (e ∙ sym c.ended_count-before.ensures)))),
  (
    g.finding,
    room_stays g c.requires.1,
    c.grow_ended.ensures.1,
  ),
)

pub returns : goal.returns
returns t c = (
  round_more c.grow_ended.ensures.0
      (λ e. c.if-ended_count-before.false (c.ended_count.ensures
      ∙ (e ∙ sym c.ended_count-before.ensures)))
      c.close.ensures.0,
  c.close.ensures.1,
)
