-- `ended_set` meets its contract: the rounds begin with the named thread alone.
use Rattle.serving.proofs.EndingRounds.{some_room, begun_room, begun_closed}
use Rattle.serving.proofs.ending.ended_set.Goals as goal

pub begin_ended-requires : goal.begin_ended-requires
begin_ended-requires c = (
  c.requires.0.holding,
  some_room c.args.name
      c.requires.0 c.requires.1,
  c.requires.2,
)

pub close-requires : goal.close-requires
close-requires c = (
  c.begin_ended.ensures.0.finding,
  begun_room c.args.name
      c.requires.0
      c.requires.1
      c.begin_ended.ensures.0,
  c.begin_ended.ensures.1,
)

pub returns : goal.returns
returns c = (
  begun_closed c.args.name
      c.begin_ended.ensures.0 c.close.ensures.0,
  c.close.ensures.1,
)
