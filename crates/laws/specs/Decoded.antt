-- What an event decoded from bytes has: its words and devices in their ranges.
use Rattle.std.specs.Prelude.{◌<◌}
use Rattle.rules.specs.Numbers.{devices, wrap}
use Rattle.laws.specs.Words.{Call, Send, Receive, CreateBrother, CreateSon, Terminate, SetManager, GetCpuTime, WaitForClock}
use Rattle.laws.specs.Words.{WaitForIo, Trap, Event, Malformed, ByRunner, Tick, Interrupt}

unfoldable pub ProperCall : Call → Type 0
ProperCall (Send to w) = w < wrap
ProperCall (Receive f) = Unit {0}
ProperCall CreateBrother = Unit {0}
ProperCall CreateSon = Unit {0}
ProperCall (Terminate n) = Unit {0}
ProperCall (SetManager k n) = Unit {0}
ProperCall GetCpuTime = Unit {0}
ProperCall WaitForClock = Unit {0}
ProperCall (WaitForIo d) = d < devices
ProperCall (Trap k c) = c < wrap

unfoldable pub Proper : Event → Type 0
Proper Malformed = Unit {0}
Proper (ByRunner c) = ProperCall c
Proper Tick = Unit {0}
Proper (Interrupt d w) = (d < devices) × (w < wrap)
