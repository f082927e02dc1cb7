-- Receive.
use Rattle.std.specs.Prelude.{ℕ, Bool, ◌&&◌, ◌==◌}
use Rattle.rules.specs.Lists.{Pulled, missing, pulled, pull}
use Rattle.rules.specs.Words.{Wanted, Receiving, Nothing, Message}
use Rattle.rules.specs.Tables.{Tables, with_messages}
use Rattle.rules.specs.States.{matches}
use Rattle.rules.specs.Waking.{Outcome, ◌handing◌, handed, stop}

-- a message or notice in the receiver's inbox "of the wanted sender, or .. of all for 255"
abbrev pub wanted_by : ℕ → Wanted → Message → Bool
wanted_by me w m = m.to == me && matches m.from w

-- "The oldest .. is handed over and its block freed for use again. If there is none, the thread waits."
unfoldable pub received : ℕ → Wanted → Tables → Pulled Message → Outcome
received me w T missing = stop me (Receiving w) T handing Nothing
received me w T (pulled m ms) = with_messages ms T handing handed m

-- "The oldest message or notice of the wanted sender, or the oldest of all for 255"
unfoldable pub receive : ℕ → Wanted → Tables → Outcome
receive me w T = received me w T (pull (wanted_by me w) T.messages)
