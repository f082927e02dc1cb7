-- `tick::tick` meets its contract: each part leaves what the next asks.
use Rattle.std.proofs.Common.{◌<◌, arith}
use Rattle.rules.specs.Numbers.{beat_ticks}
use Rattle.laws.specs.Words.{Limits}
use Rattle.rules.specs.Tables.{Tables}
use Rattle.rules.specs.Tick.{beat, rotate, tick}
use Rattle.laws.proofs.PlacesKept.{charge_inv, beat_inv}
use Rattle.store.specs.Store.{tables}
use Rattle.handling.proofs.Leaving.{and_then, carried, still_holds}
use Rattle.handling.proofs.Ticking.{charge_since}
use Rattle.handling.proofs.tick.tick.Goals as goal

pub beat-requires : goal.beat-requires
beat-requires c =
    let e = c.charge.ensures in (
      still_holds e (charge_inv c.requires.ruled.inv),
      carried (λ (L : Limits) (T : Tables). T.since < beat_ticks) e
          (omega (arith, charge_since (tables c.args.m.now), c.requires.ruled.steady.since)),
    )

pub rotate-requires : goal.rotate-requires
rotate-requires c =
    still_holds
    c.beat.ensures
    (beat_inv (still_holds c.charge.ensures
    (charge_inv c.requires.ruled.inv)).inv)

pub returns : goal.returns
unfolding tick
returns c =
    and_then rotate
    (and_then beat c.charge.ensures
    c.beat.ensures)
    c.rotate.ensures
