-- `ended::release_ended` meets its contract.
use Rattle.std.proofs.Common.{refl, arith}
use Rattle.rules.specs.Tables.{in_state}
use Rattle.store.specs.Store.{limits, tables, Shaped, found}
use Rattle.store.proofs.Written.{leaves, woken, rising_where}
use Rattle.store.proofs.Searched.{ready_length}
use Rattle.rules.specs.Waking.{wake_those}
use Rattle.laws.specs.Words.{Ready}
use Rattle.rules.specs.Ending.{release, told_gone, misses}
use Rattle.store.proofs.ended.release_ended.Goals as goal

pub receivers-requires : goal.receivers-requires
unfolding limits tables Shaped found
receivers-requires c = (
  c.requires.0.holding.shaped.roomy,
  c.requires.0.low,
  c.requires.0.holding.shaped.threads,
  omega (arith, c.requires.1, ready_length c.args.m.now c.requires.0.holding.shaped),
  c.requires.2,
)

pub returns : goal.returns
unfolding tables found release wake_those
returns c = leaves (woken c.requires.0.holding.shaped c.receivers.ensures)
    (rising_where (tables c.args.m.now).threads
    c.requires.0.holding.rising
    (λ t. misses (found c.args.m.now) t.state)
    (λ t. in_state Ready (told_gone t.state) t) (λ t. refl))
