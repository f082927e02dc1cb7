-- Which event is a tick.
use Rattle.std.specs.Prelude.{Bool, true, false}
use Rattle.laws.specs.Words.{Event, Malformed, ByRunner, Tick, Interrupt}

unfoldable pub is_tick : Event → Bool
is_tick Malformed = false
is_tick (ByRunner c) = false
is_tick Tick = true
is_tick (Interrupt d w) = false
