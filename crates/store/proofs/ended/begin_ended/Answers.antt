-- `ended::begin_ended` meets its contract.
use Rattle.store.specs.Store.{found}
use Rattle.store.proofs.Written.{found_are}
use Rattle.moving.proofs.Marking.{marks_of}
use Rattle.store.proofs.ended.begin_ended.Goals as goal

pub returns : goal.returns
unfolding found
returns c = (
  found_are c.requires.0 c.begin.ensures.0,
  marks_of c.begin.ensures.0.says c.begin.ensures.1,
)
