-- `step::serve` meets its contract, call by call: that nothing refuses the call gives its handler the room that it needs.
use mathlib.Core.Path.{refl, ap}
use Rattle.rules.specs.Waking.{◌handing◌}
use Rattle.rules.specs.Step.{serve}
use Rattle.laws.specs.Words.{Answer}
use Rattle.store.specs.Store.{tables}
use Rattle.store.proofs.Limits.{names_left}
use Rattle.handling.proofs.Leaving.{as_it_was, and_hands, holds}
use Rattle.stepping.proofs.Stepping.{message_room, brother_room, son_room, ends_somebody, caller_lives, waiting_room, device_known}
use Rattle.stepping.proofs.step.serve.Goals as goal

pub send-requires : goal.send-requires
send-requires c =
    (holds c.requires.0, message_room c.requires.0.ruled _ _ c.requires.2 _ _ c.in-Send.is)

pub create_brother-requires : goal.create_brother-requires
create_brother-requires c = (
  holds c.requires.0,
  names_left c.args.m.now c.requires.0.holding.shaped,
  brother_room c.requires.0.ruled _ _ c.requires.2
      c.in-CreateBrother.is,
)

pub create_son-requires : goal.create_son-requires
create_son-requires c = (
  holds c.requires.0,
  names_left c.args.m.now c.requires.0.holding.shaped,
  son_room c.requires.0.ruled _ _ c.requires.2
      c.in-CreateSon.is,
)

pub terminate-requires : goal.terminate-requires
terminate-requires c = (
  holds c.requires.0,
  caller_lives c.requires.0.ruled _ c.requires.1,
  ends_somebody c.requires.0.ruled _ _ c.requires.2 _
      c.in-Terminate.is,
)

pub set_manager-requires : goal.set_manager-requires
set_manager-requires c =
    (holds c.requires.0, caller_lives c.requires.0.ruled _ c.requires.1)

pub wait_for_clock-requires : goal.wait_for_clock-requires
wait_for_clock-requires c =
    (c.requires.0.holding, waiting_room c.requires.0.ruled _ c.requires.1)

pub wait_for_io-requires : goal.wait_for_io-requires
wait_for_io-requires c =
    (c.requires.0, device_known _ c.in-WaitForIo.is c.requires.3)

pub returns-in-Send : goal.returns-in-Send
unfolding serve
returns-in-Send c = rw c.in-Send.is (and_hands c.send.ensures refl)

pub returns-in-Receive : goal.returns-in-Receive
unfolding serve
returns-in-Receive c = rw c.in-Receive.is c.receive.ensures

pub returns-in-CreateBrother : goal.returns-in-CreateBrother
unfolding serve
returns-in-CreateBrother c = rw c.in-CreateBrother.is c.create_brother.ensures

pub returns-in-CreateSon : goal.returns-in-CreateSon
unfolding serve
returns-in-CreateSon c = rw c.in-CreateSon.is c.create_son.ensures

pub returns-in-Terminate : goal.returns-in-Terminate
unfolding serve
returns-in-Terminate c = rw c.in-Terminate.is c.terminate.ensures

pub returns-in-SetManager : goal.returns-in-SetManager
unfolding serve
returns-in-SetManager c = rw c.in-SetManager.is c.set_manager.ensures

pub returns-in-GetCpuTime : goal.returns-in-GetCpuTime
unfolding serve
returns-in-GetCpuTime c =
    rw c.in-GetCpuTime.is
    (and_hands (as_it_was c.requires.0.holding) (ap (λ (a : Answer). tables c.args.m.now handing a) c.get_cpu_time.ensures))

pub returns-in-WaitForClock : goal.returns-in-WaitForClock
unfolding serve
returns-in-WaitForClock c = rw c.in-WaitForClock.is c.wait_for_clock.ensures

pub returns-in-WaitForIo : goal.returns-in-WaitForIo
unfolding serve
returns-in-WaitForIo c = rw c.in-WaitForIo.is c.wait_for_io.ensures

pub returns-in-Trap : goal.returns-in-Trap
unfolding serve
returns-in-Trap c = rw c.in-Trap.is (and_hands c.trap.ensures refl)
