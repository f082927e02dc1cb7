-- The vocabulary of src/lib.rt under one roof, and what can be said of a value by its case.
use Rattle.std.specs.Prelude.{ℕ}
use Rattle.std.specs.declared.option.Option.{Option}
pub use Rattle.rules.specs.declared.Wanted.{Wanted}
pub use Rattle.rules.specs.declared.Wanted.TheVariants.{Anybody, Only}
pub use Rattle.rules.specs.declared.TrapKind.{TrapKind}
pub use Rattle.rules.specs.declared.TrapKind.TheVariants.{Program, Tlb, SysBp}
pub use Rattle.rules.specs.declared.State.{State}
pub use Rattle.rules.specs.declared.State.TheVariants.{Running, Ready, Receiving, Clock, Device, Trapped}
pub use Rattle.rules.specs.declared.Answer.{Answer}
pub use Rattle.rules.specs.declared.Answer.TheVariants.{Nothing, FromMessage, FromNotice, SenderGone, Result}
pub use Rattle.rules.specs.declared.Manager.{Manager}
pub use Rattle.rules.specs.declared.Manager.TheVariants.{Unset, Set, Gone}
pub use Rattle.rules.specs.declared.Managers.{Managers}
pub use Rattle.std.specs.Prelude.{None as NoParent, Some as ParentIs}
pub use Rattle.rules.specs.declared.Thread.{Thread}
pub use Rattle.rules.specs.declared.MessageKind.{MessageKind}
pub use Rattle.rules.specs.declared.MessageKind.TheVariants.{Ordinary, Notice}
pub use Rattle.rules.specs.declared.Message.{Message}
pub use Rattle.rules.specs.declared.Held.{Held}
pub use Rattle.rules.specs.declared.Runner.{Runner}
pub use Rattle.rules.specs.declared.Runner.TheVariants.{NoRunner, Runs}
pub use Rattle.rules.specs.declared.Status.{Status}
pub use Rattle.rules.specs.declared.Status.TheVariants.{Running as Working, Idle, Halted, Panicked}
pub use Rattle.rules.specs.declared.Target.{Target}
pub use Rattle.rules.specs.declared.Target.TheVariants.{Oneself, Named}
pub use Rattle.rules.specs.declared.Call.{Call}
pub use Rattle.rules.specs.declared.Call.TheVariants.{Send, Receive, CreateBrother, CreateSon, Terminate, SetManager, GetCpuTime}
pub use Rattle.rules.specs.declared.Call.TheVariants.{WaitForClock, WaitForIo, Trap}
pub use Rattle.rules.specs.declared.Event.{Event}
pub use Rattle.rules.specs.declared.Event.TheVariants.{Malformed, ByRunner, Tick, Interrupt}
pub use Rattle.rules.specs.declared.Decision.{Decision}
pub use Rattle.rules.specs.declared.Picked.{Picked}
pub use Rattle.rules.specs.declared.EventField.{EventField}
pub use Rattle.rules.specs.declared.DumpField.{DumpField}
pub use Rattle.rules.specs.declared.Verdict.{Verdict}
pub use Rattle.rules.specs.declared.Argument.{Argument}
pub use Rattle.rules.specs.declared.Argument.TheVariants.{NoService, Zero, AnyName, ADevice}

-- a thread's parent, or none
abbrev pub Parent : Type 0
Parent = Option ℕ

module _ {ℓ} {A : Type ℓ} where
  -- of a receiver what `from` says, of one that waits for a device what `at` says, of a trapped one what `on` says, of others x
  abbrev pub by_state : A → (Wanted → A) → (ℕ → A) → (TrapKind → A) → State → A
  by_state x from at on Running = x
  by_state x from at on Ready = x
  by_state x from at on (Receiving w) = from w
  by_state x from at on Clock = x
  by_state x from at on (Device d) = at d
  by_state x from at on (Trapped k) = on k

  abbrev pub by_wanted : A → (ℕ → A) → Wanted → A
  by_wanted x f Anybody = x
  by_wanted x f (Only n) = f n

  -- of a manager that is set what f says, of none and gone x
  abbrev pub by_manager : A → (ℕ → A) → Manager → A
  by_manager x f Unset = x
  by_manager x f (Set n) = f n
  by_manager x f Gone = x

  abbrev pub by_parent : A → (ℕ → A) → Parent → A
  by_parent x f NoParent = x
  by_parent x f (ParentIs n) = f n

  abbrev pub by_runner : A → (ℕ → ℕ → A) → Runner → A
  by_runner x f NoRunner = x
  by_runner x f (Runs n s) = f n s
