-- What a step on a memory that stands leaves.
use Rattle.std.specs.Prelude.{ℕ, ◌≡◌, ◌≢◌, List}
use Rattle.laws.specs.Words.{Event, Runs}
use Rattle.laws.specs.Words.{ByRunner as ByTheRunner, Tick as ATick, Interrupt as AnInterrupt}
use Rattle.rules.specs.Tables.{Tables}
use Rattle.rules.specs.Step.{Stepped}
use Rattle.rules.specs.declared.Decision.{Decision}
use Rattle.store.specs.Store.{limits, tables}
use Rattle.handling.specs.Standing.{AtRest}
use Rattle.stepping.specs.declared.refusals.Accepted.{Accepted}
use Rattle.stepping.specs.declared.refusals.Accepted.TheVariants.{ByRunner, Tick, Interrupt}

-- the rules' decision and tables; refused, every word is as it was
pub record Steps (m m' : List ℕ) (d : Decision) (s : Stepped) : Type 0 where
  pub decides : d ≡ s.decision
  pub leaves : tables m' ≡ s.tables
  pub same : limits m' ≡ limits m
  pub at_rest : AtRest m'
  pub keeps : d.refusal ≢ 0 → m' ≡ m

-- ---- an event that nothing refuses

-- as the rules have it
unfoldable pub event_of : Accepted → Event
event_of (ByRunner n c) = ByTheRunner c
event_of Tick = ATick
event_of (Interrupt d w) = AnInterrupt d w

-- a call is the runner's
unfoldable pub Asks : Tables → Accepted → Type 0
Asks T (ByRunner n c) = (s : ℕ) × (T.runner ≡ Runs n s)
Asks T Tick = Unit {0}
Asks T (Interrupt d w) = Unit {0}
