-- Events as bytes: what one field means.
use Rattle.std.specs.Prelude.{ℕ, ◌+◌, ◌*◌, ◌&&◌, List, [], ◌∷◌, length, take, drop, get_or, if◌then◌else◌, ◌==◌}
use Rattle.rules.specs.Lists.{all, is_byte, number}
use Rattle.rules.specs.Numbers.{nobody}
use Rattle.rules.specs.Words.{Wanted, Anybody, Only, Program, Tlb, SysBp, Send, Receive, Trap, Event, Malformed, ByRunner, Tick}
use Rattle.rules.specs.Words.{Interrupt, Picked}
use Rattle.rules.specs.Tags.{send_tag, receive_tag, request_tag, trap_tag, tick_tag, interrupt_tag, tag_facts, Service, services}
use Rattle.rules.specs.Tags.{argument_rule, meets}
use Rattle.rules.specs.Pick.{pick}

-- "255 .. anybody" in a receive
abbrev pub wanted : ℕ → Wanted
wanted n = if n == nobody then Anybody else Only n

-- what a service asks for, by its row of the table; a service that has none means nothing
unfoldable pub asked_in : List Service → ℕ → ℕ → Event
asked_in [] n a = Malformed
asked_in (s ∷ ss) n a = let later = asked_in ss n a in if n == s.number then ByRunner (s.asks a) else later

-- a request whose argument meets the service's rule
unfoldable pub request : ℕ → ℕ → Event
request n a = asked_in services n a

-- "kinds 0 program, 1 TLB, 2 SYS/Bp"
unfoldable pub trap_of : ℕ → ℕ → Event
trap_of k c =
    if k == 0 then ByRunner (Trap Program c) else (
    if k == 1 then ByRunner (Trap Tlb c) else (
    if k == 2 then ByRunner (Trap SysBp c) else (
    Malformed)))

-- "no pending device or one over 47" makes the event malformed
unfoldable pub interrupt_of : Picked → ℕ → Event
interrupt_of p w = if p.refusal == 0 then Interrupt p.device w else Malformed

-- the value of a field whose tag and length are right; a tag that is not in the table means nothing
unfoldable pub meaning : ℕ → List ℕ → Event
meaning tag v =
    let a = get_or v 0 0 in
    let w = number (drop 1 v) in
    if tag == send_tag then ByRunner (Send a w) else (
    if tag == receive_tag then ByRunner (Receive (wanted a)) else (
    if tag == request_tag then (if meets (argument_rule a) w then request a w else Malformed) else (
    if tag == trap_tag then trap_of a w else (
    if tag == tick_tag then Tick else (
    if tag == interrupt_tag then interrupt_of (pick (number (take 8 v))) (number (drop 8 v)) else (
    Malformed))))))

-- "A field is a tag byte, a two-byte length, then the value; numbers are big-endian."
unfoldable pub field_of : List ℕ → Event
field_of [] = Malformed
field_of (tag ∷ []) = Malformed
field_of (tag ∷ high ∷ []) = Malformed
field_of (tag ∷ high ∷ low ∷ v) =
    let f = tag_facts tag in
    let n = high * 256 + low in
    if f.known && n == f.length && length v == n then meaning tag v else Malformed

-- "exactly one well-formed field": anything else is malformed, numbers that are no bytes too
unfoldable pub decode : List ℕ → Event
decode bytes = if all is_byte bytes then field_of bytes else Malformed
