-- What bytes mean, and the pick.
use Rattle.std.specs.Prelude.{ℕ, ◌<◌, zero, ◌^◌, ◌/◌, ◌%◌, ◌≡◌, ◌↔◌, ◌≢◌, List, [], ◌∷◌, true}
use Rattle.rules.specs.Events.{decode}
use Rattle.rules.specs.Numbers.{devices, nobody, pending_bits, wrap}
use Rattle.rules.specs.Pick.{pending, pick}
use Rattle.rules.specs.Lists.{four_bytes}
use Rattle.laws.specs.Words.{Malformed, Oneself, CreateBrother, CreateSon, Terminate, GetCpuTime, WaitForClock, ByRunner, Program, Tlb}
use Rattle.laws.specs.Words.{SysBp, Named, SetManager, WaitForIo, Send, Anybody, Only, Receive, Trap, Tick, Interrupt}
use Rattle.laws.specs.Flaws.{Flaw}
use Rattle.laws.specs.Pick.{Foremost, Takes, Unservable}
use Rattle.laws.specs.Said.{asking, interrupting}
use Rattle.laws.proofs.Flaws as flaws
use Rattle.laws.proofs.Pick as pick
use Rattle.laws.proofs.Said as said

-- Bytes are malformed exactly if they have one of ten flaws: a number that is no byte; fewer than three; a tag under 16 or over 21; a
-- length that is not the tag's; bytes behind or missing; a bad request; a trap kind over 2; no device pending; one over 47.
pub malformed_exactly : (bytes : List ℕ) → (decode bytes ≡ Malformed) ↔ Flaw bytes
malformed_exactly = flaws.malformed_exactly

-- A device that is picked is pending, is one of 0 to 47, and is the foremost: the lowest of those pending in 0 to 31; else the lowest
-- transmitter, 32 + 2d; else the lowest receiver, 33 + 2d.
pub pick_foremost : (w : ℕ) → (pick w).refusal ≡ 0 → (pending w (pick w).device ≡ true) × ((pick w).device < devices)
    × Foremost w (pick w).device
pick_foremost = pick.pick_foremost

-- With a device pending and none over 47, the foremost is picked.
pub pick_takes : (w : ℕ) → zero < w → w < 2 ^ devices → Takes w (pick w)
pick_takes = pick.pick_takes

-- A word of 64 bits is refused with 2 exactly if no device is pending or one over 47 is, and then the device is 255.
pub pick_refused : (w : ℕ) → w < 2 ^ pending_bits → (((pick w).refusal ≡ 2) ↔ Unservable w) × ((pick w).refusal ≡ 2 → (pick w).device ≡ nobody)
pick_refused = pick.pick_refused

-- The bytes that document 01 gives to each event mean it; an interrupt is of the foremost pending device.
pub requests_say :
    (decode (asking 1 0) ≡ ByRunner CreateBrother)
    × (decode (asking 2 0) ≡ ByRunner CreateSon)
    × (decode (asking 3 255) ≡ ByRunner (Terminate Oneself))
    × (decode (asking 7 0) ≡ ByRunner GetCpuTime)
    × (decode (asking 8 0) ≡ ByRunner WaitForClock)
requests_say = said.requests_say

pub naming_requests_say : (n : ℕ) → n < 256 →
    (n ≢ 255 → decode (asking 3 n) ≡ ByRunner (Terminate (Named n)))
    × (decode (asking 4 n) ≡ ByRunner (SetManager Program n))
    × (decode (asking 5 n) ≡ ByRunner (SetManager Tlb n))
    × (decode (asking 6 n) ≡ ByRunner (SetManager SysBp n))
naming_requests_say = said.naming_requests_say

pub device_request_says : (d : ℕ) → d < 48 → decode (asking 9 d) ≡ ByRunner (WaitForIo d)
device_request_says = said.device_request_says

pub send_says : (n w : ℕ) → n < 256 → w < wrap → decode (16 ∷ 0 ∷ 5 ∷ n ∷ four_bytes w) ≡ ByRunner (Send n w)
send_says = said.send_says

pub receive_says : (decode (17 ∷ 0 ∷ 1 ∷ 255 ∷ []) ≡ ByRunner (Receive Anybody))
    × ((n : ℕ) → n < 255 → decode (17 ∷ 0 ∷ 1 ∷ n ∷ []) ≡ ByRunner (Receive (Only n)))
receive_says = said.receive_says

pub trap_says : (c : ℕ) → c < wrap →
    (decode (19 ∷ 0 ∷ 5 ∷ 0 ∷ four_bytes c) ≡ ByRunner (Trap Program c))
    × (decode (19 ∷ 0 ∷ 5 ∷ 1 ∷ four_bytes c) ≡ ByRunner (Trap Tlb c))
    × (decode (19 ∷ 0 ∷ 5 ∷ 2 ∷ four_bytes c) ≡ ByRunner (Trap SysBp c))
trap_says = said.trap_says

pub tick_says : decode (20 ∷ 0 ∷ 0 ∷ []) ≡ Tick
tick_says = said.tick_says

pub interrupt_says : (p w : ℕ) → 0 < p → p < 2 ^ 48 → w < wrap →
    (d : ℕ) × (decode (interrupting p w) ≡ Interrupt d w) × (d < 48) × (p / 2 ^ d % 2 ≡ 1) × Foremost p d
interrupt_says = said.interrupt_says
