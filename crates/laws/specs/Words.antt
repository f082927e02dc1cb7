-- The vocabulary of the rules under one roof. Another crate's `pub use` is not passed on, so it is said again here.
pub use Rattle.rules.specs.declared.Wanted.{Wanted}
pub use Rattle.rules.specs.declared.Wanted.TheVariants.{Anybody, Only}
pub use Rattle.rules.specs.declared.TrapKind.{TrapKind}
pub use Rattle.rules.specs.declared.TrapKind.TheVariants.{Program, Tlb, SysBp}
pub use Rattle.rules.specs.declared.State.{State}
pub use Rattle.rules.specs.declared.State.TheVariants.{Running, Ready, Receiving, Clock, Device, Trapped}
pub use Rattle.rules.specs.declared.Answer.{Answer}
pub use Rattle.rules.specs.declared.Answer.TheVariants.{Nothing, FromMessage, FromNotice, SenderGone, Result}
pub use Rattle.rules.specs.declared.Manager.{Manager}
pub use Rattle.rules.specs.declared.Manager.TheVariants.{Unset, Set, Gone}
pub use Rattle.rules.specs.declared.Managers.{Managers}
pub use Rattle.rules.specs.Words.{Parent}
pub use Rattle.std.specs.Prelude.{None as NoParent, Some as ParentIs}
pub use Rattle.rules.specs.declared.Thread.{Thread}
pub use Rattle.rules.specs.declared.MessageKind.{MessageKind}
pub use Rattle.rules.specs.declared.MessageKind.TheVariants.{Ordinary, Notice}
pub use Rattle.rules.specs.declared.Message.{Message}
pub use Rattle.rules.specs.declared.Held.{Held}
pub use Rattle.rules.specs.declared.Runner.{Runner}
pub use Rattle.rules.specs.declared.Runner.TheVariants.{NoRunner, Runs}
pub use Rattle.rules.specs.declared.Status.{Status}
pub use Rattle.rules.specs.declared.Status.TheVariants.{Running as Working, Idle, Halted, Panicked}
pub use Rattle.rules.specs.declared.Target.{Target}
pub use Rattle.rules.specs.declared.Target.TheVariants.{Oneself, Named}
pub use Rattle.rules.specs.declared.Call.{Call}
pub use Rattle.rules.specs.declared.Call.TheVariants.{Send, Receive, CreateBrother, CreateSon, Terminate, SetManager, GetCpuTime}
pub use Rattle.rules.specs.declared.Call.TheVariants.{WaitForClock, WaitForIo, Trap}
pub use Rattle.rules.specs.declared.Event.{Event}
pub use Rattle.rules.specs.declared.Event.TheVariants.{Malformed, ByRunner, Tick, Interrupt}
pub use Rattle.rules.specs.declared.Decision.{Decision}
pub use Rattle.rules.specs.declared.Picked.{Picked}
pub use Rattle.rules.specs.Tags.{TagFacts}
pub use Rattle.rules.specs.declared.Argument.{Argument}
pub use Rattle.rules.specs.declared.Argument.TheVariants.{NoService, Zero, AnyName, ADevice}
pub use Rattle.rules.specs.declared.numbers.Limits.{Limits}
