-- `end` meets its contract: what the ended set leaves, with those released that miss a member.
use Rattle.serving.proofs.EndingRounds.{release_room, ended}
use Rattle.store.proofs.Marking.{marks_of}
use Rattle.serving.proofs.ending.end.Goals as goal

pub release_ended-requires : goal.release_ended-requires
release_ended-requires c = (
  c.remove_ended.ensures.finding,
  release_room c.args.name
      c.ended_set.ensures.0
      c.remove_ended.ensures
      c.requires.0.inv,
  marks_of c.remove_ended.ensures.set
      c.ended_set.ensures.1,
)

pub returns : goal.returns
returns c =
    ended c.args.name c.ended_set.ensures.0
    c.remove_ended.ensures c.release_ended.ensures
