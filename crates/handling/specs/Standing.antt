-- What handlers ask of a memory: what the store asks, and of the tables what the rules keep.
use Rattle.std.specs.Prelude.{ℕ, List}
use Rattle.laws.specs.Types.{Inv, Ruled}
use Rattle.store.specs.Store.{limits, tables, Holding}

-- between two parts of one event: places and names are right, and other table rules need not hold
pub record MidEvent (m : List ℕ) : Type 0 where
  pub holding : Holding m
  pub inv : Inv (limits m) (tables m)

-- before and after an event: all the table rules hold
pub record AtRest (m : List ℕ) : Type 0 where
  pub holding : Holding m
  pub ruled : Ruled (limits m) (tables m)
